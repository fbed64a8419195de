-- `samples::check::usual_rows` meets its contract: the rows so far are counted, and the others are to come. Assumes nothing.
use native.Mathlib.Omega.{arith}
use Rattle.usual_rows.specs.Usual.{UsualLater}
use Rattle.samples.proofs.UsualRows.{none-counted, row-counted}
use Rattle.samples.proofs.check.usual_rows.Goals as goal
use Rattle.samples.proofs.check.usual_rows.Goals.{In-Some}

later : (c : In-Some) → UsualLater c.args.columns c.loop-row.latest c.args.chunk.now c.loop-row.next c.in-Some.row.sample c.in-Some.row.next
later c = rw c.in-Some.is at c.usual_later.ensures

pub loop-row-init : goal.loop-row-init
loop-row-init c = none-counted _ _ _ c.args.chunk.now _

pub loop-row-smaller : goal.loop-row-smaller
loop-row-smaller c = let u = (later (goal.at.loop-row-smaller c).In-Some).right in omega (arith, u.onward, u.within)

pub loop-row-preserved : goal.loop-row-preserved
loop-row-preserved c =
    let a = c.args in
    let l = c.loop-row in
    rw (c.next_line-line.ensures, c.next_line-rows.ensures) (row-counted _ _ a.chunk.now _ a.columns l.latest l.line l.rows l.time l.next l.invariant c.in-Some.row.sample c.in-Some.row.next (later (goal.at.loop-row-preserved c).In-Some))

pub returns : goal.returns
returns c = c.loop-row.invariant
