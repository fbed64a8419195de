-- `sample_rows::reader::end` meets its contract. Assumes nothing.
use Prim.Native.Nat.{ℕ}
use mathlib.Core.Path.{◌≡◌, sym, ap, ◌∙◌}
use mathlib.Core.List.{List, []}
use native.Mathlib.Omega.{arith}
use lib.ListN.{length, take, length-take}
use Rattle.sheet_stages.specs.ToCome.{to_come}
use Rattle.sample_rows.specs.Streamed.{lines_after, yet_to_come}
use Rattle.rules.proofs.Tests.{never}
use Rattle.sheet_stages.proofs.StageLaws.{row_ends}
use Rattle.sample_rows.proofs.LineLaws.{held-is, line-at-end, last_line}
use Rattle.sample_rows.proofs.reader.end.Goals as goal

pub ended_at-requires : goal.ended_at-requires
ended_at-requires c = λ h. never h

pub returns-then-len-eq0 : goal.returns-then-len-eq0
unfolding yet_to_come
returns-then-len-eq0 c =
    let m = c.args.reader in
    let size : length m.line ≡ 512 = c.well_formed.0.1.1.0.1.0.1 in
    let held = held-is m.line [] m.len c.min-len.result size c.min-len.ensures in
    let none = sym held ∙ ap (λ (n : ℕ). take n m.line) c.if-len-eq0.true in
    c.ended_at.ensures ∙ sym (ap (to_come m.stage) (ap (λ (s : List ℕ). lines_after s []) none ∙ line-at-end []))

pub slice_bounds-line-end : goal.slice_bounds-line-end
slice_bounds-line-end c =
    let size : length c.args.reader.line ≡ 512 = c.well_formed.0.1.1.0.1.0.1 in
    omega arith

pub slice_bounds-whole_line-end : goal.slice_bounds-whole_line-end
slice_bounds-whole_line-end c =
    let size : length c.args.reader.line ≡ 512 = c.well_formed.0.1.1.0.1.0.1 in
    simp length-take (omega arith)

pub ended_at-requires-2 : goal.ended_at-requires-2
ended_at-requires-2 c = row_ends _ _ c.whole_line.result.found _ c.whole_line.ensures

pub returns : goal.returns
unfolding yet_to_come
returns c =
    let m = c.args.reader in
    let n = c.min-len.result in
    let size : length m.line ≡ 512 = c.well_formed.0.1.1.0.1.0.1 in
    let held = held-is m.line [] m.len n size c.min-len.ensures in
    let whole : length (take n m.line) ≡ n = simp length-take (omega arith) in
    let last = last_line (take n m.line) (omega arith) in
    c.ended_at-2.ensures ∙ sym (c.whole_line.ensures []) ∙ sym (ap (to_come m.stage) (ap (λ (s : List ℕ). lines_after s []) (sym held) ∙ last))
