-- What is written begins the text at each stage and after each event, so that the program may stop anywhere; it does so for a reason. Assumes nothing.
use Prim.Native.Nat.{ℕ, ◌≤◌, ◌<◌, min}
use mathlib.Core.Path.{◌≡◌, refl, sym, ap, ◌∙◌, subst}
use mathlib.Core.Bool.{false}
use mathlib.Core.List.{List, [], ◌++◌, append-nil, append_assoc}
use native.Mathlib.Omega.{arith}
use lib.ListN.{length, take, drop, take-append-drop}
use lib.Seq.{take-take}
use Rattle.rules.specs.declared.answers.Refusal.{Refusal}
use Rattle.exchange.specs.declared.action.Why.{Why}
use Rattle.exchange.specs.declared.action.Word.{Word}
use Rattle.exchange.specs.declared.event.Event.{Event}
use Rattle.exchange.specs.World.{World, buffer_end, Fits, FitsCount, FitsDone, after, after_read, after_rewind, after_write}
use Rattle.exchange.specs.Events.{Begins}
use Rattle.exchange.proofs.Expected.{is_expected, unexpected, read-within}
use Rattle.judging.specs.Holds.{Files}
use Rattle.judging.proofs.FrameLaws.{read-frame, rewind-frame, judging-writes-nothing}
use Rattle.check_machine.specs.declared.state.Stage.{Stage}
use Rattle.check_machine.specs.declared.state.Held.{Held}
use Rattle.check_machine.specs.Stages.{Machine}
use Rattle.check_machine.specs.Stages.{asks, stopping}
use Rattle.check_machine.specs.Holds.{text, WordMeans, HoldsAt, steps_at, Well, Nearer, StepsFrom, Steps}

-- ---- a text begins so

pub begins-none : (whole done : List ℕ) → done ≡ [] → Begins whole done
begins-none whole done e = record { later = whole; is = ap (λ (l : List ℕ). l ++ whole) (sym e) }

begins-all : (whole done : List ℕ) → done ≡ whole → Begins whole done
begins-all whole done e = record { later = []; is = sym e ∙ sym (append-nil done) }

-- what begins with more begins with less
begins-before : (whole more done rest : List ℕ) → more ≡ done ++ rest → Begins whole more → Begins whole done
begins-before whole more done rest e b = record { later = rest ++ b.later; is = b.is ∙ ap (λ (l : List ℕ). l ++ b.later) e ∙ append_assoc done rest b.later }

pub told-begins : (word : Word) (g : Files) (count : ℕ) (done : List ℕ) → WordMeans word g count done → Begins (text g) done
told-begins Word.Complete g count done k = begins-all (text g) done k.0
told-begins (Word.Refused r) g count done k = begins-all (text g) done k.0
told-begins (Word.Nothing why) g count done k = k

-- of a write that failed some bytes were taken
cut-is : (done out : List ℕ) (some size : ℕ) → done ++ take size out ≡ (done ++ take (min some size) out) ++ drop (min some size) (take size out)
cut-is done out some size =
    let m = min some size in
    let h : m ≤ size = omega arith in
    ap (λ (l : List ℕ). done ++ l) (sym (take-append-drop m (take size out)) ∙ ap (λ (l : List ℕ). l ++ drop m (take size out)) (take-take m size out h)) ∙ sym (append_assoc done (take m out) (drop m (take size out)))

pub after_write_lem : (whole : List ℕ) (e : Event) (size some : ℕ) (w : World) (out : List ℕ) → FitsDone e → Begins whole (w.written ++ take size out) → Begins whole (after_write e size some w out).written
after_write_lem whole Event.Done size some w out f b = b
after_write_lem whole Event.Failed size some w out f b = begins-before whole (w.written ++ take size out) (w.written ++ take (min some size) out) (drop (min some size) (take size out)) (cut-is w.written out some size) b
after_write_lem whole (Event.Count n) size some w out f b = absurd f
after_write_lem whole (Event.Read n) size some w out f b = absurd f
after_write_lem whole Event.End size some w out f b = absurd f

-- ---- so far, and after any event

pub so_far : (stage : Stage) (g : Files) (h : Held) (w : World) (out : List ℕ) → HoldsAt stage g h w out → Begins (text g) w.written
so_far Stage.Counting g h w out o = begins-none (text g) w.written o.unwritten
so_far Stage.Judging g h w out o = begins-none (text g) w.written o.0.unwritten
so_far (Stage.Answer size word) g h w out o = begins-before (text g) (w.written ++ take size out) w.written (take size out) refl (told-begins word g w.count (w.written ++ take size out) o.0)
so_far (Stage.LineAnswer size r) g h w out o = begins-before (text g) (w.written ++ take size out) w.written (take size out) refl (begins-all (text g) (w.written ++ take size out) o.0)
so_far (Stage.ToLines r) g h w out o = begins-all (text g) w.written o.0
so_far (Stage.Lines r) g h w out o = begins-all (text g) w.written o.0
so_far (Stage.Stop word) g h w out o = told-begins word g w.count w.written o

stops : (stage : Stage) (g : Files) (h : Held) (w : World) (before buf out : List ℕ) (e : Event) (some : ℕ) → HoldsAt stage g h w out → Fits (asks stage h.judging.stage) e w before buf
    → Begins (text g) (after (asks stage h.judging.stage) e some w out).written
stops Stage.Counting g h w before buf out e some o f = begins-none (text g) w.written o.unwritten
stops Stage.Judging g h w before buf out e some o f = begins-none (text g) (after (asks Stage.Judging h.judging.stage) e some w out).written (judging-writes-nothing h.judging.stage e some w out ∙ o.0.unwritten)
stops (Stage.Answer size word) g h w before buf out e some o f = after_write_lem (text g) e size some w out f.0 (told-begins word g w.count (w.written ++ take size out) o.0)
stops (Stage.LineAnswer size r) g h w before buf out e some o f = after_write_lem (text g) e size some w out f.0 (begins-all (text g) (w.written ++ take size out) o.0)
stops (Stage.ToLines r) g h w before buf out e some o f = begins-all (text g) (after_rewind e 2 w).written ((rewind-frame e 2 w).written ∙ o.0)
stops (Stage.Lines r) g h w before buf out e some o f = begins-all (text g) (after_read e 2 w).written ((read-frame e 2 w).written ∙ o.0)
stops (Stage.Stop word) g h w before buf out e some o f = absurd f

-- a step is left at each stage that waits for an event
some_left : (stage : Stage) (g : Files) (h : Held) (e : Event) (w : World) (before buf : List ℕ) → Fits (asks stage h.judging.stage) e w before buf → 0 < steps_at stage g h w
some_left Stage.Counting g h e w before buf f = omega arith
some_left Stage.Judging g h e w before buf f = omega arith
some_left (Stage.Answer size word) g h e w before buf f = omega arith
some_left (Stage.LineAnswer size r) g h e w before buf f = omega arith
some_left (Stage.ToLines r) g h e w before buf f = omega arith
some_left (Stage.Lines r) g h e w before buf f = omega arith
some_left (Stage.Stop word) g h e w before buf f = absurd f

-- THE LAW: a stop without a complete answer, for a reason, whatever is held then
pub stop-because : (stage : Stage) (h held : Held) (e : Event) (buf out out' : List ℕ) (why : Why) (r : Machine) → r ≡ stopping held why
    → ((w : World) (before : List ℕ) → Fits (asks stage h.judging.stage) e w before buf → Well w e buf out → ⊥) → StepsFrom stage h e buf out r out'
unfolding StepsFrom
stop-because stage h held e buf out out' why r is reason g w before some o f =
    subst (λ (m : Machine). Nearer g m (after (asks stage h.judging.stage) e some w out) out' (steps_at stage g h w) (Well w e buf out)) (sym is)
    (stops stage g h w before buf out e some o f, some_left stage g h e w before buf f, λ well. absurd (reason w before f well))

-- an event that is no answer to what was asked for is one, and a failure is
pub stop-steps : (stage : Stage) (h held : Held) (e e' : Event) (buf out out' : List ℕ) (why : Why) (r : Machine) → r ≡ stopping held why → e ≡ e' → is_expected (asks stage h.judging.stage) e' ≡ false
    → StepsFrom stage h e buf out r out'
stop-steps stage h held e e' buf out out' why r is same un =
    stop-because stage h held e buf out out' why r is (λ w before f well. unexpected (asks stage h.judging.stage) e e' w before buf same un f well.event)

-- and so is a read of more bytes than the buffer holds
pub short-lines : (refusal : Refusal) (h : Held) (e : Event) (n : ℕ) (buf out : List ℕ) (why : Why) (r : Machine) → r ≡ stopping h why → e ≡ Event.Read n → length buf < n → StepsFrom (Stage.Lines refusal) h e buf out r out
short-lines refusal h e n buf out why r is same less =
    stop-because (Stage.Lines refusal) h h e buf out out why r is (λ w before f well. let within = read-within 2 0 buffer_end n e w before buf same f in omega (arith, within, less))

-- and another number of arguments
pub wrong-count : (h : Held) (e : Event) (n : ℕ) (buf out : List ℕ) (why : Why) (r : Machine) → r ≡ stopping h why → e ≡ Event.Count n → (n ≡ 3 → ⊥) → StepsFrom Stage.Counting h e buf out r out
wrong-count h e n buf out why r is same other =
    stop-because Stage.Counting h h e buf out out why r is (λ w before f well. other (subst (λ (x : Event). FitsCount x w) same f.0 ∙ well.call))

-- and buffers that are too small
pub small-steps : (m : Machine) (e : Event) (buf out : List ℕ) (why : Why) (r : Machine) → (0 < length buf → 256 ≤ length out → ⊥) → r ≡ stopping m.held why → Steps m e buf out r out
unfolding Steps
small-steps m e buf out why r small is = (refl, stop-because m.stage m.held m.held e buf out out why r is (λ w before f well. small well.reads well.room))

-- a step with buffers that are large enough
pub large-steps : (m : Machine) (e : Event) (buf out out' : List ℕ) (r : Machine) → length out' ≡ length out → StepsFrom m.stage m.held e buf out r out' → Steps m e buf out r out'
unfolding Steps
large-steps m e buf out out' r size k = (size, k)

-- ---- from an event or a stage that is known

pub at-event : (stage : Stage) (h : Held) (e e' : Event) (buf out out' : List ℕ) (r : Machine) → e ≡ e' → StepsFrom stage h e' buf out r out' → StepsFrom stage h e buf out r out'
at-event stage h e e' buf out out' r is k = subst (λ (x : Event). StepsFrom stage h x buf out r out') (sym is) k

pub at_stage : (stage stage' : Stage) (h : Held) (e : Event) (buf out out' : List ℕ) (r : Machine) → stage ≡ stage' → StepsFrom stage' h e buf out r out' → StepsFrom stage h e buf out r out'
at_stage stage stage' h e buf out out' r is k = subst (λ (x : Stage). StepsFrom x h e buf out r out') (sym is) k
