-- `test_second_cases::answer::answer_case` is safe and ends. The part that is lent lies within the buffer. Assumes nothing.
use native.Mathlib.Omega.{arith}
use lib.ListN.{length-take}
use Rattle.test_second_cases.proofs.answer.answer_case.Goals as goal

pub slice_bounds-second-end-2 : goal.slice_bounds-second-end-2
slice_bounds-second-end-2 c = simp length-take (omega arith)
