-- WHAT A STEP FROM A STAGE OWES: what holds stays so, a step less is left, and the program gives up for a reason only.
use Rattle.std.specs.Prelude.{ℕ, ◌≤◌, ◌<◌, ◌≡◌, false, List, length}
use Rattle.exchange.specs.declared.event.Event.{Event}
use Rattle.exchange.specs.Existing.{is_failed, gives_up}
use Rattle.exchange.specs.World.{World, Fits, after}
use Rattle.run_stages.specs.declared.state.Stage.{Stage}
use Rattle.run_stages.specs.declared.state.Held.{Held}
use Rattle.run_stages.specs.Stages.{Machine, asks, asks_of}
use Rattle.run_stages.specs.Given.{Given, RightCall}
use Rattle.run_stages.specs.Holds.{HoldsAt, Holds, steps_at, steps_left}

-- ALL WENT WELL: nothing failed, the buffers are large enough, the program was called as it has to be, and both passes read the same bytes
pub record Well (g : Given) (w : World) (e : Event) (buf out : List ℕ) : Type 0 where
  pub event : is_failed e ≡ false
  pub reads : 10 ≤ length buf
  pub room : 256 ≤ length out
  pub call : RightCall w.count (w.arguments 4)
  pub same : g.again ≡ g.samples

-- what holds of the state that a step gave, and fewer steps are left than `most`; and where all went well, it does not give up
abbrev pub Nearer : Given → Machine → World → List ℕ → List ℕ → ℕ → Type 0 → Type 0
Nearer g r w buf out most well = Holds g r w buf out × (steps_left g r w < most) × (well → gives_up (asks_of r) ≡ false)

-- THE STEP from a stage, at an event that may follow what it asks for, with buffers that are large enough
unfoldable pub StepsFrom : Stage → Held → Event → List ℕ → List ℕ → Machine → List ℕ → Type 0
StepsFrom stage h e buf out r out' =
    (g : Given) (w : World) (before : List ℕ) (some : ℕ) → HoldsAt stage g h w before out → Fits (asks stage h.judging.stage) e w before buf → 10 ≤ length buf → 256 ≤ length out
    → Nearer g r (after (asks stage h.judging.stage) e some w out) buf out' (steps_at stage g h w) (Well g w e buf out)
