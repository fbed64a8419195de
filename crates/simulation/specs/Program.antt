-- THE STATEMENT of the run, over any way in which the sample file arrives in chunks and the output leaves in lent buffers: definitions
-- only; proofs/Program.antt has the theorems, and there `One` is what the function's own contract ensures.
use Rattle.std.specs.Prelude.{ℕ, zero, suc, ◌+◌, ◌^◌, ◌≤◌, ◌<◌, ◌≡◌, Bool, true, false, List, [], ◌∷◌, ◌++◌, length, take, drop}
use Rattle.rules.specs.Bytes.{AreBytes, SliceHeld}
use Rattle.rules.specs.Chunks.{joined}
use Rattle.run_phases.specs.declared.state.Simulation.{Simulation}
use Rattle.run_phases.specs.declared.state.Turn.{Turn}
use Rattle.run_phases.specs.declared.state.Wants.{Wants}
use Rattle.run_texts.specs.Coming.{weight, finished}

-- the chunk that a call is handed: the first of those left, and an empty one once the file has ended
abbrev pub first : List (List ℕ) → List ℕ
first [] = []
first (chunk ∷ chunks) = chunk

abbrev pub others : List (List ℕ) → List (List ℕ)
others [] = []
others (chunk ∷ chunks) = chunks

abbrev pub is_end : List (List ℕ) → Bool
is_end [] = true
is_end (chunk ∷ chunks) = false

-- what is left of the file from a place of the first chunk on
abbrev pub left_at : ℕ → List (List ℕ) → List ℕ
left_at at chunks = drop at (first chunks) ++ joined (others chunks)

-- So many calls, one after the other, each with the state that the one before handed back and a lent buffer of at least 256 bytes: after
-- one that wanted room the same chunk is read on, after one that wanted input the next chunk comes, empty ones included, and after one
-- that wanted nothing there is no further. The bytes handed over, in order, and the state that the last handed back.
pub data Calls (One : Simulation → List ℕ → ℕ → Bool → List ℕ → Turn → List ℕ → Type 0) : Simulation → ℕ → List (List ℕ) → ℕ → List ℕ → Simulation → Type 0 where
  none : {s : Simulation} {at : ℕ} {chunks : List (List ℕ)} → Calls One s at chunks zero [] s
  room : {s last : Simulation} {at n : ℕ} {chunks : List (List ℕ)} {later : List ℕ} (r : Turn) (lent left : List ℕ)
      → One s (first chunks) at (is_end chunks) lent r left → 256 ≤ length lent → r.wants ≡ Wants.Room
      → Calls One r.simulation r.next chunks n later last → Calls One s at chunks (suc n) (take r.written left ++ later) last
  input : {s last : Simulation} {at n : ℕ} {chunks : List (List ℕ)} {later : List ℕ} (r : Turn) (lent left : List ℕ)
      → One s (first chunks) at (is_end chunks) lent r left → 256 ≤ length lent → r.wants ≡ Wants.Input
      → Calls One r.simulation 0 (others chunks) n later last → Calls One s at chunks (suc n) (take r.written left ++ later) last
  over : {s : Simulation} {at : ℕ} {chunks : List (List ℕ)} (r : Turn) (lent left : List ℕ)
      → One s (first chunks) at (is_end chunks) lent r left → 256 ≤ length lent → r.wants ≡ Wants.Nothing
      → Calls One s at chunks 1 (take r.written left) r.simulation

-- What calls hand over of a text: it always begins the text, it is the text once nothing more is handed over, and that comes soon: each
-- call consumes a chunk, brings the run nearer to its end or ends it.
pub record Prints (text : List ℕ) (most n : ℕ) (out : List ℕ) (last : Simulation) : Type 0 where
  pub later : List ℕ
  pub begins : text ≡ out ++ later
  pub all : finished last.phase ≡ true → out ≡ text
  pub soon : n ≤ most

-- the most calls there are: one for each chunk, and one for each step of the run towards its end
abbrev pub most_calls : Simulation → List (List ℕ) → ℕ
most_calls s chunks = length chunks + weight s + 1

-- ---- what the types of a call can hold: `RunHeld` says it of a run

abbrev pub SlicesHeld : List (List ℕ) → Type 0
SlicesHeld [] = Unit {0}
SlicesHeld (chunk ∷ chunks) = SliceHeld chunk × SlicesHeld chunks

-- what a call is handed; whether the file has ended is any truth value
pub record HeldByTypes (RunHeld : Simulation → Type 0) (s : Simulation) (chunk : List ℕ) (at : ℕ) (lent : List ℕ) : Type 0 where
  pub run : RunHeld s
  pub chunk-held : SliceHeld chunk
  pub place : at < 2 ^ 64
  pub lent-held : SliceHeld lent

-- a call was answered, and what it handed back is such as the types can hold: a run, and the lent buffer with as many bytes
pub record Answered (One : Simulation → List ℕ → ℕ → Bool → List ℕ → Turn → List ℕ → Type 0) (RunHeld : Simulation → Type 0) (s : Simulation) (chunk : List ℕ) (at : ℕ) (ended : Bool) (lent : List ℕ) : Type 0 where
  pub turn : Turn
  pub left : List ℕ
  pub one : One s chunk at ended lent turn left
  pub run : RunHeld turn.simulation
  pub size : length left ≡ length lent
  pub are : AreBytes left

-- calls up to one that wants nothing
pub record Whole (One : Simulation → List ℕ → ℕ → Bool → List ℕ → Turn → List ℕ → Type 0) (s : Simulation) (at : ℕ) (chunks : List (List ℕ)) : Type 0 where
  pub count : ℕ
  pub out : List ℕ
  pub last : Simulation
  pub calls : Calls One s at chunks count out last
  pub over : finished last.phase ≡ true
