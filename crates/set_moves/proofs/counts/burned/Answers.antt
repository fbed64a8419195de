-- `set_moves::counts::burned` meets its contract. Assumes nothing.
use Rattle.std.proofs.Common.{ap, ◌∙◌}
use Rattle.gensets.specs.Burned.{per_hour}
use Rattle.set_moves.proofs.counts.burned.Goals as goal

pub returns : goal.returns
returns c = c.per_hour.ensures ∙ ap per_hour c.fuel_rate.ensures
