-- Document 01, "Station A, five seconds, whole": the line of one set, after the run's last row.
use Rattle.std.specs.Prelude.{ℕ, List, [], ◌∷◌}
use Rattle.rules.specs.declared.run.SetState.{SetState}
use Rattle.rules.specs.Bytes.{comma_line}

-- a set's six numbers, in the heading's order
abbrev pub set_columns : ℕ → SetState → List ℕ
set_columns number s = number ∷ s.run ∷ s.starts ∷ s.stops ∷ s.energy ∷ s.fuel ∷ []

unfoldable pub set_line : ℕ → SetState → List ℕ
set_line number s = comma_line (set_columns number s)
