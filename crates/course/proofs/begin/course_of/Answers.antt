-- `course_of` meets its contract. Assumes nothing.
use native.Mathlib.Omega.{arith}
use Rattle.course.proofs.BeginLaws.{asked-most}
use Rattle.course.proofs.begin.course_of.Goals as goal

pub overflow_cast-seconds : goal.overflow_cast-seconds
overflow_cast-seconds c = record { fits = omega (arith, asked-most c.args.asked.now c.in_ok-seconds.seconds c.in_ok-seconds.ensures) }
