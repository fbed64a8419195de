-- `with_inputs` meets its contract: the rows of the seconds stand in the lent numbers. Assumes nothing.
use Prim.Native.Nat.{◌≤◌}
use native.Mathlib.Omega.{arith}
use lib.ListN.{length-take}
use Rattle.course.proofs.InputsRight.{in-length}
use Rattle.course_work.proofs.HandedOver.{in_three}
use Rattle.course_work.proofs.MoveLaws.{seconds-move, worked-few}
use Rattle.course_work.proofs.work.with_inputs.Goals as goal
use Rattle.course_work.proofs.work.with_inputs.Goals.{After-seconds-worked}

pub slice_bounds-seconds-end : goal.slice_bounds-seconds-end
slice_bounds-seconds-end c = simp length-take (omega (arith, c.handed_over-numbers.ensures.0, c.handed_over-numbers.auto.inputs, c.requires.0))

-- no more seconds are worked than are handed over
few : (c : After-seconds-worked) → c.seconds-worked.result.seconds ≤ c.args.count
few c =
    omega (arith, worked-few c.args.course _ _ _ _ _ (in_three _ _ _ _ c.handed_over-numbers.ensures.0 c.handed_over-numbers.ensures.1) c.seconds-worked.ensures, in-length c.args.count c.args.loads.now c.args.solars.now c.args.sheddables.now c.requires.2 c.requires.3 c.requires.4)

pub overflow_cast-result : goal.overflow_cast-result
overflow_cast-result c = record { fits = omega (arith, few (goal.at.overflow_cast-result c).After-seconds-worked, c.requires.0) }

pub overflow_sub-result : goal.overflow_sub-result
overflow_sub-result c = omega (arith, few (goal.at.overflow_sub-result c).After-seconds-worked, c.requires.1)

pub returns : goal.returns
returns c = rw c.from.ensures (seconds-move c.args.course c.args.source c.args.next _ _ _ _ _ (in_three _ _ _ _ c.handed_over-numbers.ensures.0 c.handed_over-numbers.ensures.1) c.seconds-worked.ensures)
