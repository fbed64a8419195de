-- `commitment::commit::commit` meets its contract. Assumes nothing.
use Rattle.std.proofs.Common.{◌∙◌}
use Rattle.commitment.proofs.commit.commit.Goals as goal

pub returns : goal.returns
returns c = record {
  held = c.held_after-held.ensures ∙ rw (c.wanted_for-wanted.ensures, c.saturating_sub-rest.ensures, c.saturating_sub.ensures);
  call = c.chosen-call.ensures;
}
