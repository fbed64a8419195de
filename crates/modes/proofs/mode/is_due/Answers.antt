-- `modes::mode::is_due` meets its contract. Assumes nothing.
use mathlib.Core.Path.{refl}
use Rattle.rules.specs.Modes.{due}
use Rattle.modes.proofs.mode.is_due.Goals as goal

pub returns : goal.returns
unfolding due
returns c = refl
