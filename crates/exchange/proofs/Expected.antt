-- Which events answer an action and are no failure; and at a system at which nothing fails that need not, none fails where a read has
-- a part of the buffer. Assumes nothing.
use Prim.Native.Nat.{ℕ, ◌≤◌, ◌<◌, min}
use mathlib.Core.Path.{◌≡◌, refl, sym, ap, ◌∙◌, subst}
use mathlib.Core.Bool.{Bool, true, false}
use mathlib.Core.List.{List}
use native.Mathlib.Omega.{arith}
use lib.ListN.{length}
use Rattle.rules.proofs.Tests.{never}
use Rattle.exchange.specs.declared.action.Action.{Action}
use Rattle.exchange.specs.declared.event.Event.{Event}
use Rattle.exchange.specs.World.{World, FitsCount, FitsArgument, FitsRead, FitsDone, Fits, after, after_read, after_rewind, after_write}
use Rattle.exchange.specs.Existing.{is_failed, Well}

-- ---- the events that answer an action

-- how many arguments there are
abbrev is_count : Event → Bool
is_count Event.Done = false
is_count (Event.Count n) = true
is_count (Event.Read n) = false
is_count Event.End = false
is_count Event.Failed = false

-- some bytes, or none
abbrev is_read : Event → Bool
is_read Event.Done = false
is_read (Event.Count n) = false
is_read (Event.Read n) = true
is_read Event.End = false
is_read Event.Failed = false

-- some bytes, or the file's end
abbrev is_read_or_end : Event → Bool
is_read_or_end Event.Done = false
is_read_or_end (Event.Count n) = false
is_read_or_end (Event.Read n) = true
is_read_or_end Event.End = true
is_read_or_end Event.Failed = false

-- it was done
abbrev is_done : Event → Bool
is_done Event.Done = true
is_done (Event.Count n) = false
is_done (Event.Read n) = false
is_done Event.End = false
is_done Event.Failed = false

-- the event answers the action, and is no failure
abbrev pub is_expected : Action → Event → Bool
is_expected Action.Count e = is_count e
is_expected (Action.Argument k) e = is_read e
is_expected (Action.Open k) e = is_done e
is_expected (Action.Read k from to) e = is_read_or_end e
is_expected (Action.Rewind k) e = is_done e
is_expected (Action.Write n) e = is_done e
is_expected (Action.Stop word) e = false

-- what fits a question for the count is one
count-expected : (e : Event) (w : World) → FitsCount e w → is_count e ≡ true
count-expected Event.Done w f = absurd f
count-expected (Event.Count n) w f = refl
count-expected (Event.Read n) w f = absurd f
count-expected Event.End w f = absurd f
count-expected Event.Failed w f = absurd f

-- what fits a question for an argument is its bytes, or a failure
argument-expected : (e : Event) (k : ℕ) (w : World) (buf : List ℕ) → FitsArgument e k w buf → is_failed e ≡ false → is_read e ≡ true
argument-expected Event.Done k w buf f ok = absurd f
argument-expected (Event.Count n) k w buf f ok = absurd f
argument-expected (Event.Read n) k w buf f ok = refl
argument-expected Event.End k w buf f ok = absurd f
argument-expected Event.Failed k w buf f ok = never (sym ok)

-- what fits a read is bytes, the end, or a failure
read-expected : (e : Event) (k from to : ℕ) (w : World) (buf : List ℕ) → FitsRead e k from to w buf → is_failed e ≡ false → is_read_or_end e ≡ true
read-expected Event.Done k from to w buf f ok = absurd f
read-expected (Event.Count n) k from to w buf f ok = absurd f
read-expected (Event.Read n) k from to w buf f ok = refl
read-expected Event.End k from to w buf f ok = refl
read-expected Event.Failed k from to w buf f ok = never (sym ok)

-- what fits an open, a rewind or a write is that it was done, or a failure
done-expected : (e : Event) → FitsDone e → is_failed e ≡ false → is_done e ≡ true
done-expected Event.Done f ok = refl
done-expected (Event.Count n) f ok = absurd f
done-expected (Event.Read n) f ok = absurd f
done-expected Event.End f ok = absurd f
done-expected Event.Failed f ok = never (sym ok)

-- what fits an action and is no failure answers it
pub expected : (a : Action) (e : Event) (w : World) (before buf : List ℕ) → Fits a e w before buf → is_failed e ≡ false → is_expected a e ≡ true
expected Action.Count e w before buf f ok = count-expected e w f.0
expected (Action.Argument k) e w before buf f ok = argument-expected e k w buf f.0 ok
expected (Action.Open k) e w before buf f ok = done-expected e f.0 ok
expected (Action.Read k from to) e w before buf f ok = read-expected e k from to w buf f.0 ok
expected (Action.Rewind k) e w before buf f ok = done-expected e f.0 ok
expected (Action.Write n) e w before buf f ok = done-expected e f.0 ok
expected (Action.Stop word) e w before buf f ok = absurd f

-- so an event that does not answer it does not fit, or is a failure
pub unexpected : {A : Type 0} (a : Action) (e e' : Event) (w : World) (before buf : List ℕ) → e ≡ e' → is_expected a e' ≡ false → Fits a e w before buf → is_failed e ≡ false → A
unexpected a e e' w before buf same un f ok = never (sym un ∙ ap (is_expected a) (sym same) ∙ expected a e w before buf f ok)

-- a read brings no more bytes than the buffer holds
pub read-within : (k from to n : ℕ) (e : Event) (w : World) (before buf : List ℕ) → e ≡ Event.Read n → Fits (Action.Read k from to) e w before buf → n ≤ length buf
read-within k from to n e w before buf is f =
    let g : FitsRead (Event.Read n) k from to w buf = subst (λ (x : Event). FitsRead x k from to w buf) is f.0 in
    let within = g.1 in
    omega (arith, within)

-- and so does an argument
pub argument-within : (k n : ℕ) (e : Event) (w : World) (before buf : List ℕ) → e ≡ Event.Read n → Fits (Action.Argument k) e w before buf → n ≤ length buf
argument-within k n e w before buf is f =
    let g : FitsArgument (Event.Read n) k w buf = subst (λ (x : Event). FitsArgument x k w buf) is f.0 in
    g.0

-- ---- nothing fails, and the call stays as it was

-- a read leaves the arguments as they are
after_read_lem : (e : Event) (k : ℕ) (w : World) → ((after_read e k w).count ≡ w.count) × ((after_read e k w).arguments ≡ w.arguments)
after_read_lem Event.Done k w = (refl, refl)
after_read_lem (Event.Count n) k w = (refl, refl)
after_read_lem (Event.Read n) k w = (refl, refl)
after_read_lem Event.End k w = (refl, refl)
after_read_lem Event.Failed k w = (refl, refl)

-- so does a rewind
after-rewind : (e : Event) (k : ℕ) (w : World) → ((after_rewind e k w).count ≡ w.count) × ((after_rewind e k w).arguments ≡ w.arguments)
after-rewind Event.Done k w = (refl, refl)
after-rewind (Event.Count n) k w = (refl, refl)
after-rewind (Event.Read n) k w = (refl, refl)
after-rewind Event.End k w = (refl, refl)
after-rewind Event.Failed k w = (refl, refl)

-- and a write
after_write_lem : (e : Event) (n some : ℕ) (w : World) (out : List ℕ) → ((after_write e n some w out).count ≡ w.count) × ((after_write e n some w out).arguments ≡ w.arguments)
after_write_lem Event.Done n some w out = (refl, refl)
after_write_lem (Event.Count m) n some w out = (refl, refl)
after_write_lem (Event.Read m) n some w out = (refl, refl)
after_write_lem Event.End n some w out = (refl, refl)
after_write_lem Event.Failed n some w out = (refl, refl)

-- no action changes the arguments
pub after-arguments : (a : Action) (e : Event) (some : ℕ) (w : World) (out : List ℕ) → ((after a e some w out).count ≡ w.count) × ((after a e some w out).arguments ≡ w.arguments)
after-arguments Action.Count e some w out = (refl, refl)
after-arguments (Action.Argument k) e some w out = (refl, refl)
after-arguments (Action.Open k) e some w out = (refl, refl)
after-arguments (Action.Read k from to) e some w out = after_read_lem e k w
after-arguments (Action.Rewind k) e some w out = after-rewind e k w
after-arguments (Action.Write n) e some w out = after_write_lem e n some w out
after-arguments (Action.Stop word) e some w out = (refl, refl)

-- where the action is a read, it has a part of the buffer
abbrev pub HasRoom : Action → List ℕ → Type 0
HasRoom Action.Count before = Unit {0}
HasRoom (Action.Argument k) before = Unit {0}
HasRoom (Action.Open k) before = Unit {0}
HasRoom (Action.Read k from to) before = from < min to (length before)
HasRoom (Action.Rewind k) before = Unit {0}
HasRoom (Action.Write n) before = Unit {0}
HasRoom (Action.Stop word) before = Unit {0}

-- nothing need fail there
fails-none : {A : Type 0} (a : Action) (before : List ℕ) → Well a Event.Failed before → HasRoom a before → A
fails-none Action.Count before well room = absurd well
fails-none (Action.Argument k) before well room = absurd well
fails-none (Action.Open k) before well room = absurd well
fails-none (Action.Read k from to) before well room = absurd (omega (arith, well, room))
fails-none (Action.Rewind k) before well room = absurd well
fails-none (Action.Write n) before well room = absurd well
fails-none (Action.Stop word) before well room = absurd well

-- at such a system no event is a failure where a read has a part of the buffer
pub well-unfailed : (a : Action) (e : Event) (before : List ℕ) → Well a e before → HasRoom a before → is_failed e ≡ false
well-unfailed a Event.Done before well room = refl
well-unfailed a (Event.Count n) before well room = refl
well-unfailed a (Event.Read n) before well room = refl
well-unfailed a Event.End before well room = refl
well-unfailed a Event.Failed before well room = fails-none a before well room

-- the buffer keeps its length, whatever comes of the action
pub fits-size : (a : Action) (e : Event) (w : World) (before buf : List ℕ) → Fits a e w before buf → length buf ≡ length before
fits-size Action.Count e w before buf f = ap length f.1
fits-size (Action.Argument k) e w before buf f = f.1
fits-size (Action.Open k) e w before buf f = ap length f.1
fits-size (Action.Read k from to) e w before buf f = f.1.size
fits-size (Action.Rewind k) e w before buf f = ap length f.1
fits-size (Action.Write n) e w before buf f = ap length f.1
fits-size (Action.Stop word) e w before buf f = absurd f
