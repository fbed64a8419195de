-- The reading is safe and ends: what is filled lies within the buffer, and what is left of it falls with each read. Assumes nothing.
use Rattle.std.proofs.Common.{arith}
use Rattle.perform.proofs.Parts.{read-within}
use Rattle.measure_seconds.proofs.source.start_of.Goals as goal

pub overflow_add-size : goal.overflow_add-size
overflow_add-size c = omega (arith, (read-within _ _ _ _ _ c.in-Read.is c.perform.ensures.shaped.0).1)

pub loop-size-smaller : goal.loop-size-smaller
loop-size-smaller c = omega (arith, (read-within _ _ _ _ _ c.in-Read.is c.perform.ensures.shaped.0).0, (read-within _ _ _ _ _ c.in-Read.is c.perform.ensures.shaped.0).1)

pub loop-size-preserved : goal.loop-size-preserved
loop-size-preserved c = (read-within _ _ _ _ _ c.in-Read.is c.perform.ensures.shaped.0).1
