-- `sample_rows::reader::line_at` meets its contract. Assumes nothing.
use Rattle.std.specs.Prelude.{Ok}
use mathlib.Core.Path.{◌≡◌}
use native.Mathlib.Omega.{arith}
use Rattle.usual_rows.specs.Usual.{UsualRight}
use Rattle.sample_rows.proofs.LineLaws.{usual-told}
use Rattle.sheet_stages.proofs.StageLaws.{later-led}
use Rattle.sample_rows.proofs.reader.line_at.Goals as goal

pub returns : goal.returns
returns c =
    let s = c.args.chunk.now in
    let row = c.in-Some.row in
    let u : UsualRight c.in-LaterRows.columns s c.args.at row.sample row.next = rw c.in-Some.is at c.usual_row.ensures in
    let none : c.args.len ≡ 0 = omega (arith, c.if-len-gt0.false) in
    let told = usual-told s c.args.at c.in-LaterRows.columns c.in-LaterRows.last c.in-LaterRows.lines c.next_line.result row.sample row.next c.after_later.result.stage c.after_later.result.found u (later-led _ _ _ (Ok row.sample) _ c.after_later.ensures) c.next_line.ensures in
    record { line = λ rest. rw (c.in-LaterRows.is, none) (told rest); onward = u.onward; within = u.within }
