-- WHAT A STEP KEEPS at a system at which nothing fails that need not, every list of such events keeps. Assumes nothing.
use Prim.Native.Nat.{ℕ}
use mathlib.Core.List.{List}
use Rattle.exchange.specs.declared.action.Action.{Action}
use Rattle.exchange.specs.declared.event.Event.{Event}
use Rattle.exchange.specs.World.{World, Fits, after}
use Rattle.exchange.specs.Existing.{Well, WellEvents}

-- `Holds` is what holds of a state, the files and the output, and both buffers
module _ {P : Type 0} (asks : P → Action) (One : P → Event → List ℕ → List ℕ → P → List ℕ → Type 0) (Holds : P → World → List ℕ → List ℕ → Type 0)
    (keeps : (p : P) (e : Event) (w : World) (before buf out : List ℕ) (some : ℕ) (q : P) (out' : List ℕ) → Holds p w before out → Well (asks p) e before → Fits (asks p) e w before buf → One p e buf out q out'
    → Holds q (after (asks p) e some w out) buf out') where
  -- what holds at the last state
  pub record KeptWell (last : P) (end : World) : Type 0 where
    pub buf : List ℕ
    pub out : List ℕ
    pub holds : Holds last end buf out

  -- what holds at the first state of such a list holds at its last
  pub well-keep : {n : ℕ} {p last : P} {w end : World} {buf out : List ℕ} → WellEvents asks One n p w buf out last end → Holds p w buf out → KeptWell last end
  well-keep {buf = buf} {out = out} WellEvents.none k = record { buf = buf; out = out; holds = k }
  well-keep {p = p} {w = w} {buf = before} {out = out} (WellEvents.more e some buf q out' well fits one rest) k = well-keep rest (keeps p e w before buf out some q out' k well fits one)
