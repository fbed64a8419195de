-- `put_nothing` meets its contract. Assumes nothing.
use mathlib.Core.Path.{refl}
use mathlib.Core.List.{[]}
use native.Mathlib.Omega.{arith}
use Rattle.rows.proofs.RowInBuffer.{text-refused, text-written}
use Rattle.simulation.proofs.line_turn.put_nothing.Goals as goal

pub returns-then-tail-lt-LEAST_ROW_BUFFER : goal.returns-then-tail-lt-LEAST_ROW_BUFFER
returns-then-tail-lt-LEAST_ROW_BUFFER c = text-refused [] c.args.tail.now c.if-tail-lt-LEAST_ROW_BUFFER.true

pub returns : goal.returns
returns c = text-written [] c.args.tail.now 0 c.args.tail.now (omega (arith, c.if-tail-lt-LEAST_ROW_BUFFER.false)) (refl, refl)
