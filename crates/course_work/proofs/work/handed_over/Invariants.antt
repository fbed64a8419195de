-- `handed_over` meets its contract: second after second. Assumes nothing.
use Rattle.course_work.proofs.HandedOver.{Handing}
use Rattle.course_work.proofs.work.handed_over.Given as goal

abbrev pub invariant-loop-i : goal.invariant-loop-i
invariant-loop-i l = Handing l.loads l.solars l.sheddables l.count l.initial.inputs l.inputs l.i
