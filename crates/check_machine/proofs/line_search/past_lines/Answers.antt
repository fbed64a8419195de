-- Past a line end, what is left is the chunk's end still. Assumes nothing.
use native.Mathlib.Omega.{arith}
use Rattle.check_machine.proofs.LineLaws.{ends-later}
use Rattle.check_machine.proofs.line_search.past_lines.Goals as goal

pub loop-passed-preserved : goal.loop-passed-preserved
loop-passed-preserved c = ends-later _ _ _ (omega arith) c.loop-passed.invariant
