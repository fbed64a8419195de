-- THE LOOP'S DUTY, the same for every program: which event may follow which action, what the buffer then holds, and what was written.
-- It is all that is taken for granted of the code that performs the actions, and of the system under it.
use Rattle.std.specs.Prelude.{ℕ, ◌+◌, ◌≤◌, ◌<◌, min, ◌≡◌, Bool, true, false, List, [], ◌∷◌, ◌++◌, eqb, length, take, drop}
use Rattle.exchange.specs.declared.action.Action.{Action}
use Rattle.exchange.specs.declared.event.Event.{Event}

-- what is read and written, by the place of the argument that names it
pub record World : Type 0 where
  -- of each file: what is left of it, and then what it has each further time that it is read from its start
  pub files : ℕ → List (List ℕ)
  -- how many arguments there are, and each argument's own bytes
  pub count : ℕ
  pub arguments : ℕ → List ℕ
  -- the bytes that standard output took, in order
  pub written : List ℕ

-- what is left of a file
abbrev pub left_in : List (List ℕ) → List ℕ
left_in [] = []
left_in (left ∷ again) = left

-- what it has each time that it is read from its start
abbrev pub again_in : List (List ℕ) → List (List ℕ)
again_in [] = []
again_in (left ∷ again) = again

abbrev pub left_of : World → ℕ → List ℕ
left_of w k = left_in (w.files k)

abbrev pub again_of : World → ℕ → List (List ℕ)
again_of w k = again_in (w.files k)

abbrev pub one_of : Bool → List (List ℕ) → List (List ℕ) → List (List ℕ)
one_of true this other = this
one_of false this other = other

-- one file moved on
abbrev pub with_file : World → ℕ → List (List ℕ) → World
with_file w k file = record { files = λ j. one_of (eqb j k) file (w.files j); count = w.count; arguments = w.arguments; written = w.written }

abbrev pub with_written : World → List ℕ → World
with_written w more = record { files = w.files; count = w.count; arguments = w.arguments; written = w.written ++ more }

-- the end of every buffer
abbrev pub buffer_end : ℕ
buffer_end = 18446744073709551615

-- ---- which event may follow which action, and what the buffer then holds

abbrev pub FitsCount : Event → World → Type 0
FitsCount (Event.Count n) w = n ≡ w.count
FitsCount Event.Done w = ⊥
FitsCount (Event.Read n) w = ⊥
FitsCount Event.End w = ⊥
FitsCount Event.Failed w = ⊥

-- as many of the argument's bytes as the buffer holds
abbrev pub FitsArgument : Event → ℕ → World → List ℕ → Type 0
FitsArgument (Event.Read n) k w buf = (n ≤ length buf) × (take n buf ≡ take (length buf) (w.arguments k))
FitsArgument Event.Failed k w buf = Unit {0}
FitsArgument Event.Done k w buf = ⊥
FitsArgument (Event.Count n) k w buf = ⊥
FitsArgument Event.End k w buf = ⊥

-- some bytes, and they are the file's next; or the end, and then none is left
abbrev pub FitsRead : Event → ℕ → ℕ → ℕ → World → List ℕ → Type 0
FitsRead (Event.Read n) k from to w buf = (0 < n) × (from + n ≤ min to (length buf)) × (left_of w k ≡ take n (drop from buf) ++ drop n (left_of w k))
FitsRead Event.End k from to w buf = left_of w k ≡ []
FitsRead Event.Failed k from to w buf = Unit {0}
FitsRead Event.Done k from to w buf = ⊥
FitsRead (Event.Count n) k from to w buf = ⊥

-- the buffer outside a part is as it was
pub record Outside (from to : ℕ) (before buf : List ℕ) : Type 0 where
  pub size : length buf ≡ length before
  pub ahead : take from buf ≡ take from before
  pub behind : drop to buf ≡ drop to before

abbrev pub FitsDone : Event → Type 0
FitsDone Event.Done = Unit {0}
FitsDone Event.Failed = Unit {0}
FitsDone (Event.Count n) = ⊥
FitsDone (Event.Read n) = ⊥
FitsDone Event.End = ⊥

-- `before` is what the buffer held when the action was asked for, `buf` what it holds at the event
abbrev pub Fits : Action → Event → World → List ℕ → List ℕ → Type 0
Fits Action.Count e w before buf = FitsCount e w × (buf ≡ before)
Fits (Action.Argument k) e w before buf = FitsArgument e k w buf × (length buf ≡ length before)
Fits (Action.Open k) e w before buf = FitsDone e × (buf ≡ before)
Fits (Action.Read k from to) e w before buf = FitsRead e k from to w buf × Outside from to before buf
Fits (Action.Rewind k) e w before buf = FitsDone e × (buf ≡ before)
Fits (Action.Write n) e w before buf = FitsDone e × (buf ≡ before)
Fits (Action.Stop word) e w before buf = ⊥

-- ---- what an action and its event do to the files and the output

abbrev pub after_read : Event → ℕ → World → World
after_read (Event.Read n) k w = with_file w k (drop n (left_of w k) ∷ again_of w k)
after_read Event.Done k w = w
after_read (Event.Count n) k w = w
after_read Event.End k w = w
after_read Event.Failed k w = w

abbrev pub after_rewind : Event → ℕ → World → World
after_rewind Event.Done k w = with_file w k (again_of w k)
after_rewind (Event.Count n) k w = w
after_rewind (Event.Read n) k w = w
after_rewind Event.End k w = w
after_rewind Event.Failed k w = w

-- of a write that failed the first `some` bytes were taken, and perhaps none
abbrev pub after_write : Event → ℕ → ℕ → World → List ℕ → World
after_write Event.Done n some w out = with_written w (take n out)
after_write Event.Failed n some w out = with_written w (take (min some n) out)
after_write (Event.Count m) n some w out = w
after_write (Event.Read m) n some w out = w
after_write Event.End n some w out = w

abbrev pub after : Action → Event → ℕ → World → List ℕ → World
after Action.Count e some w out = w
after (Action.Argument k) e some w out = w
after (Action.Open k) e some w out = w
after (Action.Read k from to) e some w out = after_read e k w
after (Action.Rewind k) e some w out = after_rewind e k w
after (Action.Write n) e some w out = after_write e n some w out
after (Action.Stop word) e some w out = w
