-- `line_turn` meets its contract: the line of the phase stands in the buffer where it has room. Assumes nothing.
use mathlib.Core.Path.{◌≡◌, ap, ◌∙◌}
use native.Mathlib.Omega.{arith}
use lib.ListN.{length, drop}
use Rattle.rows.specs.Written.{TextPut}
use Rattle.run_texts.specs.Text.{line_of}
use Rattle.simulation.proofs.LineLaws.{rest-is, line-room, line-moves, line-waits}
use Rattle.simulation.proofs.line_turn.line_turn.Goals as goal
use Rattle.simulation.proofs.line_turn.line_turn.Goals.{After-put_line_of}

-- the line stands in the tail that was lent
owes : (c : After-put_line_of) → TextPut (line_of c.args.t.simulation.phase c.args.t.simulation.course.run.sets) (drop c.args.t.written c.args.out.now) c.put_line_of.result c.put_line_of.new.tail
owes c = rw c.set_states-states.ensures at (rw rest-is at c.put_line_of.ensures)

same_size : (c : After-put_line_of) → length c.put_line_of.new.tail ≡ length (drop c.args.t.written c.args.out.now)
same_size c =
    c.put_line_of.auto.tail ∙ ap length (rest-is c.args.out.now c.args.t.written)

pub overflow_add-result : goal.overflow_add-result
overflow_add-result c =
    omega (arith, line-room c.args.t c.args.out.now _ _ (owes (goal.at.overflow_add-result c).After-put_line_of) (same_size (goal.at.overflow_add-result c).After-put_line_of) _ c.in-Ok.is c.requires, c.well_formed.1.0.0)

pub returns-in-Ok : goal.returns-in-Ok
returns-in-Ok c =
    rw (c.in_phase.ensures, c.phase_after.ensures) (line-moves c.args.t c.args.out.now _ _ (owes (goal.at.returns-in-Ok c).After-put_line_of) (same_size (goal.at.returns-in-Ok c).After-put_line_of) _ c.in-Ok.is c.requires)

pub returns-in-Err : goal.returns-in-Err
returns-in-Err c =
    line-waits c.args.t c.args.out.now _ _ (owes (goal.at.returns-in-Err c).After-put_line_of) (same_size (goal.at.returns-in-Err c).After-put_line_of) _ c.in-Err.is
