-- `handed_over` meets its contract: second after second. Assumes nothing.
use mathlib.Core.Path.{refl}
use native.Mathlib.Omega.{arith}
use lib.ListN.{length-set}
use Rattle.course_work.proofs.HandedOver.{handing-start, handing-more, handing-over}
use Rattle.course_work.proofs.work.handed_over.Goals as goal

pub loop-i-init : goal.loop-i-init
loop-i-init c = handing-start _ _ _ _ _

pub bounds-inputs-at-in-loop-i : goal.bounds-inputs-at-in-loop-i
bounds-inputs-at-in-loop-i c = simp length-set (omega (arith, c.loop-i.invariant.size, c.loop-i-test.true, c.requires.3))

pub bounds-inputs-at-in-loop-i-2 : goal.bounds-inputs-at-in-loop-i-2
bounds-inputs-at-in-loop-i-2 c = simp length-set (omega (arith, c.loop-i.invariant.size, c.loop-i-test.true, c.requires.3))

pub loop-i-preserved : goal.loop-i-preserved
loop-i-preserved c = handing-more _ _ _ _ _ _ _ c.loop-i.invariant c.loop-i-test.true c.requires.0 c.requires.1 c.requires.2 c.requires.3

pub shape_of-inputs : goal.shape_of-inputs
shape_of-inputs c = c.loop-i.invariant.size

pub returns : goal.returns
returns c = (refl, (handing-over _ _ _ _ _ _ _ c.loop-i.invariant (omega (arith, c.loop-i-test.false))).1)
