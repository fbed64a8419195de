-- `sample_rows::reader::extended_by` meets its contract. Assumes nothing.
use Prim.Native.Nat.{◌+◌}
use mathlib.Core.Path.{◌≡◌, ap, ◌∙◌}
use mathlib.Core.List.{◌++◌}
use native.Mathlib.Omega.{arith}
use lib.ListN.{length, take}
use Rattle.std.proofs.lemmas.Slice.{take-put_mid}
use Rattle.sample_rows.proofs.LineLaws.{held-is, whole-over}
use Rattle.sample_rows.proofs.reader.extended_by.Goals as goal

pub returns-then-held-more : goal.returns-then-held-more
returns-then-held-more c =
    let size : length c.args.line ≡ 512 = omega arith in
    whole-over c.args.line c.args.more.now c.args.len c.min-held.result size c.min-held.ensures (omega arith)

pub returns : goal.returns
returns c =
    let line = c.args.line in
    let more = c.args.more.now in
    let held = c.min-held.result in
    let new = c.copy_from_slice.new.self in
    let size : length line ≡ 512 = omega arith in
    let same : new ≡ more = c.copy_from_slice.ensures.after in
    let ends : held + length more ≡ held + length new = rw same in
    let put = take-put_mid held _ line new (held + length more) ends (omega arith) in
    (put ∙ ap (λ l. l ++ new) (held-is line more c.args.len held size c.min-held.ensures) ∙ ap (λ l. take c.args.len line ++ l) same, omega arith)
