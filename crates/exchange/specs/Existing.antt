-- THAT LISTS OF EVENTS EXIST, up to a stop: what is asked of a world, of a program's step, and which failures such a list may have.
-- Definitions only; proofs/ExistLaws.antt has the theorem.
use Rattle.std.specs.Prelude.{ℕ, zero, suc, ◌^◌, ◌≤◌, ◌<◌, min, ◌≡◌, Bool, true, false, List, [], ◌∷◌, length}
use Rattle.rules.specs.Bytes.{AreBytes}
use Rattle.exchange.specs.declared.action.Action.{Action}
use Rattle.exchange.specs.declared.action.Word.{Word}
use Rattle.exchange.specs.declared.event.Event.{Event}
use Rattle.exchange.specs.World.{World, Fits, after}

-- ---- what a system can have, and what a step can be handed

-- of a file each time that it is read
abbrev pub AllBytes : List (List ℕ) → Type 0
AllBytes [] = Unit {0}
AllBytes (file ∷ again) = AreBytes file × AllBytes again

-- files and arguments of bytes, and a count that a number of 64 bits holds
pub record WorldHeld (w : World) : Type 0 where
  pub files : (k : ℕ) → AllBytes (w.files k)
  pub arguments : (k : ℕ) → AreBytes (w.arguments k)
  pub count : w.count < 2 ^ 64

-- the number that an event carries is one of 64 bits
abbrev pub EventHeld : Event → Type 0
EventHeld Event.Done = Unit {0}
EventHeld (Event.Count n) = n < 2 ^ 64
EventHeld (Event.Read n) = n < 2 ^ 64
EventHeld Event.End = Unit {0}
EventHeld Event.Failed = Unit {0}

-- a step was answered, and what it handed back is such as the types can hold: a state, and the output buffer with as many bytes
pub record Answered {P : Type 0} (One : P → Event → List ℕ → List ℕ → P → List ℕ → Type 0) (StateHeld : P → Type 0) (p : P) (e : Event) (buf out : List ℕ) : Type 0 where
  pub state : P
  pub left : List ℕ
  pub one : One p e buf out state left
  pub held : StateHeld state
  pub size : length left ≡ length out
  pub are : AreBytes left

-- ---- a system at which nothing fails that need not

-- what was asked for was not done
abbrev pub is_failed : Event → Bool
is_failed Event.Done = false
is_failed (Event.Count n) = false
is_failed (Event.Read n) = false
is_failed Event.End = false
is_failed Event.Failed = true

-- the word says that there is no complete answer
abbrev pub is_nothing : Word → Bool
is_nothing Word.Complete = false
is_nothing (Word.Refused r) = false
is_nothing (Word.Nothing why) = true

-- to ask for it is to give up
abbrev pub gives_up : Action → Bool
gives_up Action.Count = false
gives_up (Action.Argument k) = false
gives_up (Action.Open k) = false
gives_up (Action.Read k from to) = false
gives_up (Action.Rewind k) = false
gives_up (Action.Write n) = false
gives_up (Action.Stop word) = is_nothing word

-- a read can but fail where the part of the buffer that is asked for is empty, and nothing else need fail
abbrev pub FailsWell : Action → List ℕ → Type 0
FailsWell Action.Count before = ⊥
FailsWell (Action.Argument k) before = ⊥
FailsWell (Action.Open k) before = ⊥
FailsWell (Action.Read k from to) before = min to (length before) ≤ from
FailsWell (Action.Rewind k) before = ⊥
FailsWell (Action.Write n) before = ⊥
FailsWell (Action.Stop word) before = ⊥

abbrev pub Well : Action → Event → List ℕ → Type 0
Well a Event.Done before = Unit {0}
Well a (Event.Count n) before = Unit {0}
Well a (Event.Read n) before = Unit {0}
Well a Event.End before = Unit {0}
Well a Event.Failed before = FailsWell a before

-- `Events` of such a system
pub data WellEvents {P : Type 0} (asks : P → Action) (One : P → Event → List ℕ → List ℕ → P → List ℕ → Type 0) : ℕ → P → World → List ℕ → List ℕ → P → World → Type 0 where
  none : {p : P} {w : World} {buf out : List ℕ} → WellEvents asks One zero p w buf out p w
  more : {n : ℕ} {p last : P} {w end : World} {before out : List ℕ} (e : Event) (some : ℕ) (buf : List ℕ) (q : P) (out' : List ℕ)
      → Well (asks p) e before → Fits (asks p) e w before buf → One p e buf out q out'
      → WellEvents asks One n q (after (asks p) e some w out) buf out' last end → WellEvents asks One (suc n) p w before out last end

-- a list of them up to a state that asks for nothing more
pub record Lists {P : Type 0} (asks : P → Action) (One : P → Event → List ℕ → List ℕ → P → List ℕ → Type 0) (p : P) (w : World) (before out : List ℕ) : Type 0 where
  pub count : ℕ
  pub last : P
  pub end : World
  pub well : WellEvents asks One count p w before out last end
  pub word : Word
  pub stops : asks last ≡ Action.Stop word
