-- `samples_chunk` meets its contract. Assumes nothing.
use Rattle.judging.proofs.SampleLaws.{samples-enter, samples-cut}
use mathlib.Core.Path.{sym, ◌∙◌}
use Rattle.judging.proofs.reading.samples_chunk.Goals as goal

pub returns-then-is_refused : goal.returns-then-is_refused
returns-then-is_refused c = samples-cut c.args.held c.args.chunk.now c.feed-check.result c.tallied-tally.result c.feed-check.ensures c.tallied-tally.ensures (sym c.is_refused.ensures ∙ c.if-is_refused.true)

pub returns : goal.returns
returns c = samples-enter c.args.held c.args.chunk.now c.feed-check.result c.tallied-tally.result c.feed-check.ensures c.tallied-tally.ensures
