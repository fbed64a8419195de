-- The watts of a second and the totals of a run: a number for each flow of energy.
use Rattle.std.specs.Prelude.{ℕ}
use Rattle.rules.specs.declared.run.ByFlow.{ByFlow}

abbrev pub Watts : Type 0
Watts = ByFlow ℕ

abbrev pub Totals : Type 0
Totals = ByFlow ℕ
