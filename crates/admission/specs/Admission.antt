-- Which seconds of a call the rules admit, one after the other, and why no more are worked.
use Rattle.std.specs.Prelude.{ℕ, zero, suc, ◌+◌, ◌≡◌, List, [], ◌∷◌, eqb, length, if◌then◌else◌}
use Rattle.rules.specs.declared.answers.Ended.{Ended}
use Rattle.rules.specs.declared.answers.Ended.TheVariants.{AllWorked, NoRoom, BeforeRefused}
use Rattle.rules.specs.declared.station.Station.{Station}
use Rattle.rules.specs.declared.run.Inputs.{Inputs}
use Rattle.rules.specs.declared.run.Run.{Run}
use Rattle.rules.specs.Answers.{is_accepted}
use Rattle.rules.specs.StationRecord.{some_file_gives}
use Rattle.rules.specs.RunRecord.{possible}
use Rattle.rules.specs.Second.{admitted}
use Rattle.rules.specs.Seconds.{WorkedSeconds}
use Rattle.admission.specs.declared.admit.Judged.{Judged}

-- the inputs of the first of the seconds that these numbers have three of each for
abbrev pub first_inputs : List ℕ → Inputs
first_inputs [] = record { load = 0; solar = 0; sheddable = 0 }
first_inputs (l ∷ []) = record { load = 0; solar = 0; sheddable = 0 }
first_inputs (l ∷ s ∷ []) = record { load = 0; solar = 0; sheddable = 0 }
first_inputs (l ∷ s ∷ h ∷ more) = record { load = l; solar = s; sheddable = h }

-- how many are admitted one after the other, where so many are done before and so many have room
unfoldable pub admitted_to : ℕ → List Inputs → ℕ → ℕ
admitted_to done [] room = 0
admitted_to done (x ∷ xs) zero = 0
admitted_to done (x ∷ xs) (suc room) = if is_accepted (admitted done x 256) then suc (admitted_to (done + 1) xs room) else 0

unfoldable pub admitted_of : Station → Run → List Inputs → ℕ → ℕ
admitted_of st r xs room = if some_file_gives st then (if possible st r then admitted_to r.done xs room else 0) else 0

-- why so many of those asked are worked and no more
unfoldable pub ended_at : ℕ → ℕ → ℕ → Ended
ended_at count asked room = if eqb count asked then AllWorked else if eqb count room then NoRoom else BeforeRefused

pub record JudgedBy (c : WorkedSeconds) (j : Judged) : Type 0 where
  pub counts : j.seconds ≡ length c.rows
  pub ends : j.ended ≡ c.ended
