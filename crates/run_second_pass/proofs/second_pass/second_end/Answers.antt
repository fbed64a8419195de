-- `second_end` meets its contract. Assumes nothing.
use Rattle.run_second_pass.proofs.SecondPassLaws.{second-ends, ending-stops}
use mathlib.Core.Path.{refl, sym, ◌∙◌}
use Rattle.run_second_pass.proofs.second_pass.second_end.Goals as goal

pub returns-then-not-same_tally : goal.returns-then-not-same_tally
returns-then-not-same_tally c = ending-stops c.args.held c.args.buf.now c.args.out.now c.args.out.now c.args.held.judging.held.tally _ _ refl (sym c.same_tally.ensures ∙ c.if-not-same_tally.true) c.stopped.ensures

pub returns : goal.returns
returns c = second-ends c.args.held c.args.buf.now c.args.out.now _ c.args.held.judging.held.tally _ refl (sym c.same_tally.ensures ∙ c.if-not-same_tally.false) c.hand_over.ensures
