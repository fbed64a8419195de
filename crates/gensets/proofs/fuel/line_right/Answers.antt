-- `fuel::line_right` meets its contract: it asks the rules in their order. Assumes nothing.
use native.Mathlib.Numerals.{add-one}
use Rattle.gensets.specs.Leaves.{line_right}
use Rattle.gensets.proofs.fuel.line_right.Goals as goal

pub returns : goal.returns
unfolding line_right
returns c = rw add-one
