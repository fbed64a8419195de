-- WHAT THE STEP OWES, and the first state. `proofs/Program.antt` has the theorem over lists of events.
use Rattle.std.specs.Prelude.{ℕ, ◌+◌, ◌≡◌, false, List, [], ◌∷◌, length}
use Rattle.exchange.specs.declared.event.Event.{Event}
use Rattle.exchange.specs.Existing.{gives_up}
use Rattle.exchange.specs.World.{World, left_of, again_of, Fits, after}
use Rattle.run_stages.specs.Stages.{Machine, asks_of}
use Rattle.run_stages.specs.Given.{Given}
use Rattle.run_stages.specs.Holds.{Holds, steps_left, steps_judged}
use Rattle.run_stages.specs.StageSteps.{Well, Nearer}

-- THE STEP, at an event that may follow what the state asks for; the output buffer keeps its length
unfoldable pub Steps : Machine → Event → List ℕ → List ℕ → Machine → List ℕ → Type 0
Steps m e buf out r out' =
    (length out' ≡ length out)
    × ((g : Given) (w : World) (before : List ℕ) (some : ℕ) → Holds g m w before out → Fits (asks_of m) e w before buf
    → Nearer g r (after (asks_of m) e some w out) buf out' (steps_left g m w) (Well g w e buf out))

-- the program begins, with nothing read and nothing written
pub record Starting (g : Given) (w : World) : Type 0 where
  pub station : left_of w 1 ≡ g.station
  pub passes : again_of w 2 ≡ g.samples ∷ g.again ∷ []
  pub asked : w.arguments 3 ≡ g.asked
  pub unwritten : w.written ≡ []

-- and so many steps are left; something is asked for
unfoldable pub Opens : Machine → Type 0
Opens r =
    (g : Given) (w : World) (buf out : List ℕ) → Starting g w
    → Holds g r w buf out × (steps_left g r w ≡ length g.station + length g.samples + 5 + steps_judged g + 2) × (gives_up (asks_of r) ≡ false)
