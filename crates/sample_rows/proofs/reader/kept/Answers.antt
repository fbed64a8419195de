-- `sample_rows::reader::kept` meets its contract. Assumes nothing.
use Prim.Native.Nat.{ℕ, ◌<◌}
use mathlib.Core.Path.{sym, ap}
use mathlib.Core.List.{List, ◌++◌}
use lib.ListN.{length}
use Rattle.sheet_stages.specs.ToCome.{to_come}
use Rattle.sample_rows.specs.Streamed.{lines_after, begun_in, yet_to_come}
use Rattle.sample_rows.proofs.LineLaws.{long-line}
use Rattle.sample_rows.proofs.reader.kept.Goals as goal

pub returns : goal.returns
unfolding yet_to_come
returns c =
    let m = c.args.reader in
    let whole = rw c.in-Some.is at c.extended_by.ensures in
    λ rest. ap (λ (l : List ℕ). to_come m.stage (lines_after l rest)) whole.0

pub returns-in_default : goal.returns-in_default
unfolding yet_to_come
returns-in_default c =
    let m = c.args.reader in
    let s = c.args.more.now in
    let over : 512 < length (begun_in m ++ s) = rw c.in_default.is at c.extended_by.ensures in
    λ rest. sym (long-line m.stage _ (begun_in m ++ s) rest _ c.too_long.ensures over)
