-- THE SHAPE OF EACH ANSWER: which kinds of event may follow which action, and what the buffer keeps. It is exchange's `Fits` without what
-- only the system can know, the bytes of files and arguments.
use Rattle.std.specs.Prelude.{ℕ, ◌+◌, ◌≤◌, ◌<◌, min, ◌≡◌, List, length}
use Rattle.exchange.specs.declared.action.Action.{Action}
use Rattle.exchange.specs.declared.event.Event.{Event}
use Rattle.exchange.specs.World.{Outside}

abbrev pub ShapedCount : Event → Type 0
ShapedCount (Event.Count n) = Unit {0}
ShapedCount Event.Done = ⊥
ShapedCount (Event.Read n) = ⊥
ShapedCount Event.End = ⊥
ShapedCount Event.Failed = ⊥

-- no more bytes than the buffer holds
abbrev pub ShapedArgument : Event → List ℕ → Type 0
ShapedArgument (Event.Read n) buf = n ≤ length buf
ShapedArgument Event.Failed buf = Unit {0}
ShapedArgument Event.Done buf = ⊥
ShapedArgument (Event.Count n) buf = ⊥
ShapedArgument Event.End buf = ⊥

-- some bytes, within the part that was asked for
abbrev pub ShapedRead : Event → ℕ → ℕ → List ℕ → Type 0
ShapedRead (Event.Read n) from to buf = (0 < n) × (from + n ≤ min to (length buf))
ShapedRead Event.End from to buf = Unit {0}
ShapedRead Event.Failed from to buf = Unit {0}
ShapedRead Event.Done from to buf = ⊥
ShapedRead (Event.Count n) from to buf = ⊥

abbrev pub ShapedDone : Event → Type 0
ShapedDone Event.Done = Unit {0}
ShapedDone Event.Failed = Unit {0}
ShapedDone (Event.Count n) = ⊥
ShapedDone (Event.Read n) = ⊥
ShapedDone Event.End = ⊥

-- nobody is to ask for anything after a stop
abbrev pub ShapedStop : Event → Type 0
ShapedStop Event.Failed = Unit {0}
ShapedStop Event.Done = ⊥
ShapedStop (Event.Count n) = ⊥
ShapedStop (Event.Read n) = ⊥
ShapedStop Event.End = ⊥

-- `before` is what the buffer held when the action was asked for, `buf` what it holds at the event
abbrev pub Shaped : Action → Event → List ℕ → List ℕ → Type 0
Shaped Action.Count e before buf = ShapedCount e × (buf ≡ before)
Shaped (Action.Argument k) e before buf = ShapedArgument e buf × (length buf ≡ length before)
Shaped (Action.Open k) e before buf = ShapedDone e × (buf ≡ before)
Shaped (Action.Read k from to) e before buf = ShapedRead e from to buf × Outside from to before buf
Shaped (Action.Rewind k) e before buf = ShapedDone e × (buf ≡ before)
Shaped (Action.Write n) e before buf = ShapedDone e × (buf ≡ before)
Shaped (Action.Stop word) e before buf = ShapedStop e × (buf ≡ before)
