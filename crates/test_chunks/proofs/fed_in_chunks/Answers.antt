-- `test_chunks::fed_in_chunks` meets its contract. Assumes nothing.
use mathlib.Core.Path.{sym, ◌∙◌}
use lib.ListN.{drop_of_length-le}
use Rattle.test_chunks.proofs.ChunkedLaws.{chunk-fed}
use Rattle.test_chunks.proofs.fed_in_chunks.Goals as goal

pub loop-at-init : goal.loop-at-init
loop-at-init c = c.check-fed.ensures _

pub loop-at-preserved : goal.loop-at-preserved
loop-at-preserved c =
    let end = c.chunk_end-end in
    sym (chunk-fed _ _ _ end.ensures.0 end.ensures.1 _ _ c.feed-fed.ensures) ∙ c.loop-at.invariant

pub returns : goal.returns
returns c = rw (drop_of_length-le _ c.loop-at-test.false) at c.loop-at.invariant
