-- `second_chunk` meets its contract. Assumes nothing.
use mathlib.Core.Path.{refl}
use Rattle.run_second_pass.proofs.SecondPassLaws.{second-enters, entering-stops}
use Rattle.run_second_pass.proofs.second_pass.second_chunk.Goals as goal

pub returns-then-held-second : goal.returns-then-held-second
returns-then-held-second c = entering-stops c.args.held c.args.size c.args.chunk.now c.args.buf.now c.args.out.now c.args.out.now c.args.held.judging.held.tally c.tallied-second.result _ _ refl c.tallied-second.ensures c.if-held-second.true c.stopped.ensures

pub returns : goal.returns
returns c = second-enters c.args.held c.args.size c.args.chunk.now c.args.buf.now c.args.out.now _ c.tallied-second.result _ c.tallied-second.ensures c.hand_over.ensures
