-- EVENTS one after the other, of any program: the states of its machine from the first to the last, the files and the output, and the bytes
-- of both buffers. `asks` is what a state asks for, and `One` is what is known of a step; a program's theorem takes for it what the contract
-- of its own step ensures.
use Rattle.std.specs.Prelude.{ℕ, zero, suc, ◌≡◌, List, ◌++◌}
use Rattle.exchange.specs.declared.action.Action.{Action}
use Rattle.exchange.specs.declared.event.Event.{Event}
use Rattle.exchange.specs.World.{World, Fits, after}

-- So many steps: each time an event comes that may follow what the state asks for, and the output buffer is handed on as it was left.
pub data Events {P : Type 0} (asks : P → Action) (One : P → Event → List ℕ → List ℕ → P → List ℕ → Type 0) : ℕ → P → World → List ℕ → List ℕ → P → World → Type 0 where
  none : {p : P} {w : World} {buf out : List ℕ} → Events asks One zero p w buf out p w
  more : {n : ℕ} {p last : P} {w end : World} {before out : List ℕ} (e : Event) (some : ℕ) (buf : List ℕ) (q : P) (out' : List ℕ)
      → Fits (asks p) e w before buf → One p e buf out q out'
      → Events asks One n q (after (asks p) e some w out) buf out' last end → Events asks One (suc n) p w before out last end

-- what is written begins a text
pub record Begins (whole done : List ℕ) : Type 0 where
  pub later : List ℕ
  pub is : whole ≡ done ++ later
