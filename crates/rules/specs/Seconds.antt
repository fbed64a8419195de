-- Many seconds in one call: document 01's seconds one after the other, each from the record that the one before left, and their rows as
-- numbers. Document 01 has no such call, so that what ends one is no refusal of its.
use Rattle.std.specs.Prelude.{ℕ, zero, suc, ◌*◌, ◌/◌, List, [], ◌∷◌, ◌++◌, ◌≡◌, length, drop}
use Rattle.rules.specs.declared.answers.Ended.{Ended}
use Rattle.rules.specs.declared.answers.Ended.TheVariants.{AllWorked, NoRoom, BeforeRefused}
use Rattle.rules.specs.declared.station.Station.{Station}
use Rattle.rules.specs.declared.run.Inputs.{Inputs}
use Rattle.rules.specs.declared.run.Row.{Row}
use Rattle.rules.specs.declared.run.Run.{Run}
use Rattle.rules.specs.declared.run.Step.{Step}
use Rattle.rules.specs.declared.run.Worked.{Worked}
use Rattle.rules.specs.Answers.{Answer, accepted, refused}
use Rattle.rules.specs.Row.{columns}
use Rattle.rules.specs.Second.{second}

-- ---- what goes in and comes out, as numbers

-- three for each second: load, solar offered and sheddable load; one or two that are left over at the end are no second's
unfoldable pub inputs_each : List ℕ → List Inputs
inputs_each [] = []
inputs_each (l ∷ []) = []
inputs_each (l ∷ s ∷ []) = []
inputs_each (l ∷ s ∷ h ∷ more) = record { load = l; solar = s; sheddable = h } ∷ inputs_each more

-- thirteen for each row, in the heading's order
unfoldable pub numbers_of : List Row → List ℕ
numbers_of [] = []
numbers_of (r ∷ rows) = columns r ++ numbers_of rows

-- ---- the seconds

-- what the rules answer to a second whose row has room: 25, 24, 23, 19, 20, and never 26
abbrev pub ruled : Station → Run → Inputs → Answer Step
ruled st r x = second st r x 256

-- what seconds come to: the record after those worked, their rows, and why they are no more
pub record WorkedSeconds : Type 0 where
  pub run : Run
  pub rows : List Row
  pub ended : Ended

-- by the rules' answer to the first: the others after it, or none
abbrev pub came_on : Run → Answer Step → (Step → WorkedSeconds) → WorkedSeconds
came_on r (accepted s) later = record { run = (later s).run; rows = s.row ∷ (later s).rows; ended = (later s).ended }
came_on r (refused number place) later = record { run = r; rows = []; ended = BeforeRefused }

-- all of them, or those before the first that has no room for its row or that the rules refuse
unfoldable pub came_to : Station → Run → List Inputs → ℕ → WorkedSeconds
came_to st r [] room = record { run = r; rows = []; ended = AllWorked }
came_to st r (x ∷ xs) zero = record { run = r; rows = []; ended = NoRoom }
came_to st r (x ∷ xs) (suc room) = came_on r (ruled st r x) (λ s. came_to st s.run xs room)

-- ---- a call, with rows lent

-- what the call's inputs come to: the lent rows have room for as many as they have whole thirteens
abbrev pub came_of : Station → Run → List ℕ → List ℕ → WorkedSeconds
came_of st r inputs lent = came_to st r (inputs_each inputs) (length lent / 13)

-- What a call of many seconds owes, for every input: its answer, the record that it hands back, the rows as they are left.
pub record Seconds (st : Station) (r : Run) (inputs lent : List ℕ) (w : Worked) (left : List ℕ) : Type 0 where
  pub hands : w.run ≡ (came_of st r inputs lent).run
  pub counts : w.seconds ≡ length (came_of st r inputs lent).rows
  pub ends : w.ended ≡ (came_of st r inputs lent).ended
  pub leaves : left ≡ numbers_of (came_of st r inputs lent).rows ++ drop (13 * length (came_of st r inputs lent).rows) lent
