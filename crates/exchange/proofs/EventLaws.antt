-- WHAT A STEP KEEPS, every list of events keeps; and where each step brings a program nearer to its stop, the stop comes in so many steps.
-- Assumes nothing.
use Prim.Native.Nat.{ℕ, ◌+◌, ◌≤◌, ◌<◌}
use mathlib.Core.List.{List}
use native.Mathlib.Omega.{arith}
use Rattle.exchange.specs.declared.action.Action.{Action}
use Rattle.exchange.specs.declared.event.Event.{Event}
use Rattle.exchange.specs.World.{World, Fits, after}
use Rattle.exchange.specs.Events.{Events}

-- `Holds` is what holds of a state, the files and the output, and both buffers; `left` how many steps there still are, at most
module _ {P : Type 0} (asks : P → Action) (One : P → Event → List ℕ → List ℕ → P → List ℕ → Type 0) (Holds : P → World → List ℕ → List ℕ → Type 0) (left : P → World → ℕ)
    (keeps : (p : P) (e : Event) (w : World) (before buf out : List ℕ) (some : ℕ) (q : P) (out' : List ℕ) → Holds p w before out → Fits (asks p) e w before buf → One p e buf out q out'
    → Holds q (after (asks p) e some w out) buf out' × (left q (after (asks p) e some w out) < left p w)) where
  -- what holds at the last state, and how many steps came before it
  pub record Kept (n : ℕ) (p : P) (w : World) (last : P) (end : World) : Type 0 where
    pub buf : List ℕ
    pub out : List ℕ
    pub holds : Holds last end buf out
    pub few : n + left last end ≤ left p w

  pub events-keep : {n : ℕ} {p last : P} {w end : World} {buf out : List ℕ} → Events asks One n p w buf out last end → Holds p w buf out → Kept n p w last end
  events-keep {buf = buf} {out = out} Events.none k = record { buf = buf; out = out; holds = k; few = omega arith }
  events-keep {p = p} {w = w} {buf = before} {out = out} (Events.more e some buf q out' fits one rest) k =
      let s = keeps p e w before buf out some q out' k fits one in
      let r = events-keep rest s.0 in
      let nearer = s.1 in
      let few = r.few in
      record { buf = r.buf; out = r.out; holds = r.holds; few = omega (arith, nearer, few) }
