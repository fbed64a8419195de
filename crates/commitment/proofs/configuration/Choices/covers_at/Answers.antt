-- `commitment::configuration::Choices::covers_at` meets its contract. Assumes nothing.
use Rattle.commitment.specs.Choice.{usable_covering_of}
use Rattle.commitment.proofs.configuration.Choices.covers_at.Goals as goal

pub returns : goal.returns
unfolding usable_covering_of
returns c = rw (c.usable.ensures, c.covers.ensures)
