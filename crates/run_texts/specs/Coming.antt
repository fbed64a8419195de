-- Which inputs a run in a phase is still to be handed, over every rest of the sample file, and how far it is from its end.
use Rattle.std.specs.Prelude.{ℕ, suc, ◌+◌, ◌-◌, ◌≡◌, Bool, true, false, List, [], ◌++◌}
use Rattle.rules.specs.declared.run.Inputs.{Inputs}
use Rattle.course.specs.Coming as coming
use Rattle.course.specs.Coming.{Coming}
use Rattle.run_phases.specs.declared.state.Phase.{Phase}
use Rattle.run_phases.specs.declared.state.Simulation.{Simulation}

-- ---- the inputs that are still to come

-- no input is waited for any more
abbrev pub NoMore : Simulation → List Inputs → Type 0
NoMore s xs = (s.course.left ≡ 0) × (xs ≡ [])

abbrev pub ComesIn : Phase → Simulation → List ℕ → List Inputs → Type 0
ComesIn (Phase.Refusal refusal) s rest xs = NoMore s xs
ComesIn Phase.Heading s rest xs = Coming s.course rest xs
ComesIn Phase.Seconds s rest xs = Coming s.course rest xs
ComesIn Phase.SetHeading s rest xs = NoMore s xs
ComesIn (Phase.SetLine place) s rest xs = NoMore s xs
ComesIn Phase.Over s rest xs = NoMore s xs
ComesIn Phase.Broken s rest xs = ⊥

abbrev pub Comes : Simulation → List ℕ → List Inputs → Type 0
Comes s rest xs = ComesIn s.phase s rest xs

-- some of them are worked, and the others are still to come
pub record ComesOn (worked xs : List Inputs) (s : Simulation) (rest : List ℕ) : Type 0 where
  pub others : List Inputs
  pub are : xs ≡ worked ++ others
  pub come : Comes s rest others

-- ---- how far a run is from its end: no turn makes it more, and each that goes on makes it less

abbrev pub rank : Phase → ℕ
rank (Phase.Refusal refusal) = 1
rank Phase.Heading = 13
rank Phase.Seconds = 12
rank Phase.SetHeading = 11
rank (Phase.SetLine place) = suc (9 - place)
rank Phase.Over = 0
rank Phase.Broken = 0

abbrev pub weight : Simulation → ℕ
weight s = rank s.phase + coming.weight s.course

-- nothing more is handed over
abbrev pub finished : Phase → Bool
finished (Phase.Refusal refusal) = false
finished Phase.Heading = false
finished Phase.Seconds = false
finished Phase.SetHeading = false
finished (Phase.SetLine place) = false
finished Phase.Over = true
finished Phase.Broken = true

-- nothing of the sets' heading and lines is handed over yet
abbrev pub is_before_sets : Phase → Bool
is_before_sets (Phase.Refusal refusal) = false
is_before_sets Phase.Heading = true
is_before_sets Phase.Seconds = true
is_before_sets Phase.SetHeading = true
is_before_sets (Phase.SetLine place) = false
is_before_sets Phase.Over = false
is_before_sets Phase.Broken = true
