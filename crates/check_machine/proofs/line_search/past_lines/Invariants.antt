-- What is left of the chunk is its end. Assumes nothing.
use Rattle.check_machine.proofs.LineLaws.{ends}
use Rattle.check_machine.proofs.line_search.past_lines.Given as goal

abbrev pub invariant-loop-passed : goal.invariant-loop-passed
invariant-loop-passed l = ends l.rest l.chunk
