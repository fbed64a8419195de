-- TURNS OF A PROGRAM, one after the other: each time what its state asks for is answered, with the shape of `Shape.Shaped`, and what came of
-- it is handed to its step, with both buffers as they then are. It is exchange's `Events` without the world, which is on trust.
use Rattle.std.specs.Prelude.{ℕ, ◌+◌, ◌≡◌, List}
use Rattle.exchange.specs.declared.action.Action.{Action}
use Rattle.exchange.specs.declared.action.Why.{Why}
use Rattle.exchange.specs.declared.action.Word.{Word}
use Rattle.exchange.specs.declared.event.Event.{Event}
use Rattle.perform.specs.Shape.{Shaped}

-- so many of them, from a state and both buffers to the last
pub data Turns {P : Type 0} (asks : P → Action) (Steps : P → Event → List ℕ → List ℕ → P → List ℕ → Type 0) : ℕ → P → List ℕ → List ℕ → P → List ℕ → List ℕ → Type 0 where
  none : {p : P} {buf out : List ℕ} → Turns asks Steps 0 p buf out p buf out
  more : {n : ℕ} {p q r : P} {buf out before out' buf' out'' : List ℕ} (e : Event) → Turns asks Steps n p buf out q before out' → Shaped (asks q) e before buf' → Steps q e buf' out' r out''
      → Turns asks Steps (n + 1) p buf out r buf' out''

-- more turns than any program comes to
abbrev pub most_turns : ℕ
most_turns = 18446744073709551615

-- the last state stops with that word; or so many turns were made that no program comes to
pub data EndsWith {P : Type 0} (asks : P → Action) (turns : ℕ) (last : P) (word : Word) : Type 0 where
  stops : asks last ≡ Action.Stop word → EndsWith asks turns last word
  endless : turns ≡ most_turns → word ≡ Word.Nothing Why.Broken → EndsWith asks turns last word

-- a program that begins, and its last state; the files that it hands back count as many actions as there were turns
pub record Ends {P : Type 0} (Opens : P → Type 0) (asks : P → Action) (Steps : P → Event → List ℕ → List ℕ → P → List ℕ → Type 0) (buf out : List ℕ) (word : Word) (last : P) (performed : ℕ) (buf' out' : List ℕ) : Type 0 where
  pub first : P
  pub opens : Opens first
  pub turns : Turns asks Steps performed first buf out last buf' out'
  pub ends : EndsWith asks performed last word
