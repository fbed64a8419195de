-- The lines of the sets are their lines one after the other. Assumes nothing.
use Prim.Native.Nat.{ℕ, suc}
use mathlib.Core.Path.{◌≡◌, refl}
use mathlib.Core.List.{List, ◌∷◌, ◌++◌}
use Rattle.rules.specs.declared.run.SetState.{SetState}
use Rattle.rules.specs.Row.{set_lines}
use Rattle.rows.specs.SetLine.{set_line}

pub set-lines-step : (n : ℕ) (s : SetState) (states : List SetState) → set_lines n (s ∷ states) ≡ set_line (suc n) s ++ set_lines (suc n) states
unfolding set_lines set_line
set-lines-step n s states = refl
