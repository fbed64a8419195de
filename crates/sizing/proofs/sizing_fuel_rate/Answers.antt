-- `sizing::sizing_fuel_rate` meets its contract. Assumes nothing.
use mathlib.Core.Path.{ap, ◌∙◌}
use Rattle.sizing.specs.Screen.{screen_answer}
use Rattle.sizing.proofs.sizing_fuel_rate.Goals as goal

pub returns : goal.returns
returns c = c.into.ensures ∙ ap screen_answer c.rate_asked.ensures
