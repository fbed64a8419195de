-- `admission::admit::admitted_to` meets its contract. Assumes nothing.
use Rattle.admission.proofs.Admitting.{Admitting}
use Rattle.admission.proofs.admit.admitted_to.Given as goal

abbrev pub invariant-loop-count : goal.invariant-loop-count
invariant-loop-count l = Admitting l.done l.inputs l.most l.second l.count
