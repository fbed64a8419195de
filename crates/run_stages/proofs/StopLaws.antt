-- What is written begins the text at each stage and after each event, so that a program may stop anywhere. Assumes nothing.
use Prim.Native.Nat.{ℕ, zero, suc, ◌≤◌, ◌<◌, min}
use mathlib.Core.Path.{◌≡◌, refl, sym, ap, ◌∙◌, subst}
use mathlib.Core.Bool.{Bool, true, false}
use mathlib.Core.List.{List, [], ◌∷◌, ◌++◌, append-nil, append_assoc}
use native.Mathlib.Omega.{arith}
use lib.ListN.{length, take, drop, take-append-drop, length-append}
use lib.Seq.{take-take}
use Rattle.rules.specs.declared.answers.Refusal.{Refusal}
use Rattle.rules.specs.declared.run.Inputs.{Inputs}
use Rattle.rules.specs.declared.run.Run.{Run}
use Rattle.rules.specs.declared.station.Station.{Station}
use Rattle.rules.specs.Row.{row_heading}
use Rattle.rows.specs.AnswerLine.{refused_line}
use Rattle.rules.proofs.Tests.{never}
use Rattle.tally.specs.declared.Tally.{Tally}
use Rattle.dispatch.specs.Working.{run_after}
use Rattle.run_phases.specs.declared.state.Phase.{Phase}
use Rattle.run_phases.specs.declared.state.Simulation.{Simulation}
use Rattle.run_phases.specs.declared.state.Wants.{Wants}
use Rattle.run_texts.specs.Rows.{row_texts, set_texts, rows_with}
use Rattle.run_texts.specs.Text.{text_of, to_print}
use Rattle.run_texts.specs.Coming.{is_before_sets}
use Rattle.exchange.specs.declared.action.Why.{Why}
use Rattle.exchange.specs.declared.action.Word.{Word}
use Rattle.exchange.specs.declared.event.Event.{Event}
use Rattle.exchange.specs.Existing.{is_failed}
use Rattle.exchange.specs.World.{World, left_of, buffer_end, Fits, FitsDone, after, after_rewind, after_write}
use Rattle.exchange.specs.Events.{Begins}
use Rattle.exchange.proofs.Expected.{is_expected, unexpected, read-within, argument-within}
use Rattle.judging.specs.Stages.{judge_asks}
use Rattle.judging.proofs.FrameLaws.{judging-writes-nothing, read-frame, rewind-frame}
use Rattle.run_stages.specs.declared.state.Stage.{Stage}
use Rattle.run_stages.specs.declared.state.Held.{Held}
use Rattle.run_stages.specs.Stages.{Machine, asks, stopping}
use Rattle.run_stages.specs.Given.{Given, text, Goes, OfSome, SetsToCome, Sets}
use Rattle.run_stages.specs.Holds.{Running, Handing, Tallies, Unfinished, Stopped, HoldsAt, steps_at}
use Rattle.run_stages.specs.StageSteps.{Well, Nearer, StepsFrom}

-- ---- a text begins so

pub goes-begins : {g : Given} {s : Simulation} {rest done : List ℕ} → Goes g s rest done → Begins (text g) done
goes-begins {s = s} k = record { later = to_print s k.inputs; is = sym k.text-is }

pub begins-none : (whole done : List ℕ) → done ≡ [] → Begins whole done
begins-none whole done e = record { later = whole; is = ap (λ (l : List ℕ). l ++ whole) (sym e) }

-- what begins with more begins with less
begins-before : (whole more done rest : List ℕ) → more ≡ done ++ rest → Begins whole more → Begins whole done
begins-before whole more done rest e b = record { later = rest ++ b.later; is = b.is ∙ ap (λ (l : List ℕ). l ++ b.later) e ∙ append_assoc done rest b.later }

-- what has no byte begins with none
none_before : (more done rest : List ℕ) → more ≡ done ++ rest → more ≡ [] → done ≡ []
none_before more [] rest e none = refl
none_before more (byte ∷ done) rest e none = absurd (let z : length ((byte ∷ done) ++ rest) ≡ 0 = ap length (sym e ∙ none) in omega (arith, z, length-append (byte ∷ done) rest))

sets-before : (g : Given) (more done rest : List ℕ) → more ≡ done ++ rest → Sets g more → Sets g done
sets-before g more done rest e (Sets.nothing n) = Sets.nothing (none_before more done rest e n)
sets-before g more done rest e (Sets.refusal r is b) = Sets.refusal r is (begins-before (text g) more done rest e b)
sets-before g more done rest e (Sets.unshown t) =
    let end : List ℕ = t.later ++ set_texts t.at t.last in
    Sets.unshown
    (record {
      station = t.station;
      run = t.run;
      inputs = t.inputs;
      later = rest ++ t.later;
      at = t.at;
      last = t.last;
      is = t.is ∙ ap (λ (l : List ℕ). l ++ end) e ∙ append_assoc done rest end ∙ ap (λ (l : List ℕ). done ++ l) (sym (append_assoc rest t.later (set_texts t.at t.last)));
    })
sets-before g more done rest e (Sets.agreed a) = Sets.agreed a

-- of a write that failed some bytes were taken
cut-is : (done out : List ℕ) (some size : ℕ) → done ++ take size out ≡ (done ++ take (min some size) out) ++ drop (min some size) (take size out)
cut-is done out some size =
    let m = min some size in
    let h : m ≤ size = omega arith in
    ap (λ (l : List ℕ). done ++ l) (sym (take-append-drop m (take size out)) ∙ ap (λ (l : List ℕ). l ++ drop m (take size out)) (take-take m size out h)) ∙ sym (append_assoc done (take m out) (drop m (take size out)))

-- ---- the sets' lines are still to come, whatever the second pass reads

dark : ℕ → List Inputs
dark zero = []
dark (suc n) = record { load = 0; solar = 0; sheddable = 0 } ∷ dark n

dark-length : (n : ℕ) → length (dark n) ≡ n
unfolding dark
dark-length zero = refl
dark-length (suc n) = ap suc (dark-length n)

-- the text of a run before its sets' heading ends with the sets
record Before (whole : List ℕ) : Type 0 where
  rows : List ℕ
  at : Station
  last : Run
  is : whole ≡ rows ++ set_texts at last

before-sets : (p : Phase) (st : Station) (r : Run) (xs : List Inputs) → is_before_sets p ≡ true → Before (text_of p st r xs)
unfolding text_of rows_with
before-sets (Phase.Refusal refusal) st r xs e = never e
before-sets Phase.Heading st r xs e =
    record { rows = row_heading ++ row_texts st xs r; at = st; last = run_after st xs r; is = sym (append_assoc row_heading (row_texts st xs r) (set_texts st (run_after st xs r))) }
before-sets Phase.Seconds st r xs e = record { rows = row_texts st xs r; at = st; last = run_after st xs r; is = refl }
before-sets Phase.SetHeading st r xs e = record { rows = []; at = st; last = r; is = refl }
before-sets (Phase.SetLine place) st r xs e = never e
before-sets Phase.Over st r xs e = never e
before-sets Phase.Broken st r xs e = record { rows = row_texts st xs r; at = st; last = run_after st xs r; is = refl }

sets-to-come : (s : Simulation) (done : List ℕ) → OfSome s done → SetsToCome done
sets-to-come s done o =
    let xs = dark s.course.left in
    let b = before-sets s.phase s.course.station s.course.run xs o.early in
    record {
      station = o.station;
      run = o.run;
      inputs = o.worked ++ xs;
      later = b.rows;
      at = b.at;
      last = b.last;
      is = o.rows xs (dark-length s.course.left) ∙ ap (λ (l : List ℕ). done ++ l) b.is;
    }

sets-by : (ended : Bool) (g : Given) (first second : Tally) (left : List ℕ) (s : Simulation) (done : List ℕ) → Tallies ended g first second left s done → Sets g done
sets-by true g first second left s done t = Sets.agreed t
sets-by false g first second left s done t = Sets.unshown (sets-to-come s done t.2)

-- ---- what is written when a program stops

none_written : (g : Given) (done : List ℕ) → done ≡ [] → Unfinished g done
none_written g done e = (λ same. begins-none (text g) done e, Sets.nothing e)

unfinished-before : (g : Given) (more done rest : List ℕ) → more ≡ done ++ rest → Unfinished g more → Unfinished g done
unfinished-before g more done rest e u = (λ same. begins-before (text g) more done rest e (u.0 same), sets-before g more done rest e u.1)

pub running-unfinished : (g : Given) (h : Held) (w : World) (left : List ℕ) → Running g h w left → Unfinished g w.written
running-unfinished g h w left k = (λ same. goes-begins (k.goes same), Sets.unshown (sets-to-come h.simulation w.written k.rows))

pub handing-unfinished : (g : Given) (h : Held) (w : World) (buf done : List ℕ) → Handing g h w buf done → Unfinished g done
handing-unfinished g h w buf done k = (
  λ same. goes-begins (k.goes same),
  sets-by h.ended g h.judging.held.tally h.second (left_of w 2) h.simulation done k.tallies,
)

-- a text that is written whole
whole-unfinished : (g : Given) (r : Refusal) (done : List ℕ) → text g ≡ refused_line r → done ≡ text g → Unfinished g done
whole-unfinished g r done is e =
    let b : Begins (text g) done = record { later = []; is = sym e ∙ sym (append-nil done) } in
    (λ same. b, Sets.refusal r is b)

answer-unfinished : (g : Given) (r : Refusal) (w : World) (size : ℕ) (out : List ℕ) → text g ≡ refused_line r → take size out ≡ text g → w.written ≡ [] → Unfinished g (w.written ++ take size out)
answer-unfinished g r w size out is line none = whole-unfinished g r (w.written ++ take size out) is (ap (λ (l : List ℕ). l ++ take size out) none ∙ line)

after_write_lem : (g : Given) (e : Event) (size some : ℕ) (w : World) (out : List ℕ) → FitsDone e → Unfinished g (w.written ++ take size out) → Unfinished g (after_write e size some w out).written
after_write_lem g Event.Done size some w out f u = u
after_write_lem g Event.Failed size some w out f u = unfinished-before g (w.written ++ take size out) (w.written ++ take (min some size) out) (drop (min some size) (take size out)) (cut-is w.written out some size) u
after_write_lem g (Event.Count n) size some w out f u = absurd f
after_write_lem g (Event.Read n) size some w out f u = absurd f
after_write_lem g Event.End size some w out f u = absurd f

-- THE LAW: whatever the event is
pub stops : (stage : Stage) (g : Given) (h : Held) (w : World) (before buf out : List ℕ) (e : Event) (some : ℕ) → HoldsAt stage g h w before out → Fits (asks stage h.judging.stage) e w before buf
    → Unfinished g (after (asks stage h.judging.stage) e some w out).written
stops Stage.Counting g h w before buf out e some o f = none_written g w.written o.unwritten
stops Stage.Telling g h w before buf out e some o f = none_written g w.written o.0.unwritten
stops Stage.Judging g h w before buf out e some o f =
    none_written g (after (judge_asks h.judging.stage) e some w out).written (judging-writes-nothing h.judging.stage e some w out ∙ o.0.unwritten)
stops Stage.AskSeconds g h w before buf out e some o f = none_written g w.written o.unwritten
stops Stage.ToSecondPass g h w before buf out e some o f = none_written g (after_rewind e 2 w).written ((rewind-frame e 2 w).written ∙ o.unwritten)
stops Stage.SecondPass g h w before buf out e some o f = subst (Unfinished g) (sym (read-frame e 2 w).written) (running-unfinished g h w (left_of w 2) o)
stops (Stage.Write size wants) g h w before buf out e some o f = after_write_lem g e size some w out f.0 (handing-unfinished g h w before (w.written ++ take size out) o.handing)
stops (Stage.Answer size refusal) g h w before buf out e some o f = after_write_lem g e size some w out f.0 (answer-unfinished g refusal w size out o.carried o.line o.unwritten)
stops (Stage.Stop word) g h w before buf out e some o f = absurd f

-- a step is left at each stage that waits for an event
pub some_left : (stage : Stage) (g : Given) (h : Held) (e : Event) (w : World) (before buf : List ℕ) → Fits (asks stage h.judging.stage) e w before buf → 0 < steps_at stage g h w
some_left Stage.Counting g h e w before buf f = omega arith
some_left Stage.Telling g h e w before buf f = omega arith
some_left Stage.Judging g h e w before buf f = omega arith
some_left Stage.AskSeconds g h e w before buf f = omega arith
some_left Stage.ToSecondPass g h e w before buf f = omega arith
some_left Stage.SecondPass g h e w before buf f = omega arith
some_left (Stage.Write size Wants.Further) g h e w before buf f = omega arith
some_left (Stage.Write size Wants.Input) g h e w before buf f = omega arith
some_left (Stage.Write size Wants.Room) g h e w before buf f = omega arith
some_left (Stage.Write size Wants.Nothing) g h e w before buf f = omega arith
some_left (Stage.Answer size refusal) g h e w before buf f = omega arith
some_left (Stage.Stop word) g h e w before buf f = absurd f

-- a program may stop for a reason
pub stop-because : (stage : Stage) (h : Held) (e : Event) (buf out out' : List ℕ) (why : Why) (r : Machine) → r ≡ stopping h why
    → ((w : World) (before : List ℕ) → Fits (asks stage h.judging.stage) e w before buf → is_failed e ≡ false → ⊥) → StepsFrom stage h e buf out r out'
unfolding StepsFrom
stop-because stage h e buf out out' why r is reason g w before some o f ten roomy =
    subst (λ (m : Machine). Nearer g m (after (asks stage h.judging.stage) e some w out) buf out' (steps_at stage g h w) (Well g w e buf out)) (sym is)
    (stops stage g h w before buf out e some o f, some_left stage g h e w before buf f, λ well. absurd (reason w before f well.event))

-- an event that is no answer to what was asked for is one, and a failure is
pub stop-steps : (stage : Stage) (h : Held) (e e' : Event) (buf out out' : List ℕ) (why : Why) (r : Machine) → r ≡ stopping h why → e ≡ e' → is_expected (asks stage h.judging.stage) e' ≡ false
    → StepsFrom stage h e buf out r out'
stop-steps stage h e e' buf out out' why r is same un = stop-because stage h e buf out out' why r is (λ w before f ok. unexpected (asks stage h.judging.stage) e e' w before buf same un f ok)

-- and so is a read of more bytes than the buffer holds
pub short-read : (h : Held) (e : Event) (n : ℕ) (buf out out' : List ℕ) (why : Why) (r : Machine) → r ≡ stopping h why → e ≡ Event.Read n → length buf < n → StepsFrom Stage.SecondPass h e buf out r out'
short-read h e n buf out out' why r is same less =
    stop-because Stage.SecondPass h e buf out out' why r is (λ w before f ok. let within = read-within 2 0 buffer_end n e w before buf same f in omega (arith, within, less))

-- and an argument of more bytes
pub short-argument : (h : Held) (e : Event) (n : ℕ) (buf out out' : List ℕ) (why : Why) (r : Machine) → r ≡ stopping h why → e ≡ Event.Read n → length buf < n → StepsFrom Stage.AskSeconds h e buf out r out'
short-argument h e n buf out out' why r is same less =
    stop-because Stage.AskSeconds h e buf out out' why r is (λ w before f ok. let within = argument-within 3 n e w before buf same f in omega (arith, within, less))

-- ---- inside a step

pub nearer-stop : (g : Given) (h : Held) (w : World) (buf out : List ℕ) (most : ℕ) (well : Type 0) (why : Why) (r : Machine) → r ≡ stopping h why → Unfinished g w.written → 0 < most → (well → ⊥)
    → Nearer g r w buf out most well
nearer-stop g h w buf out most well why r is u some reason = subst (λ (m : Machine). Nearer g m w buf out most well) (sym is) (u, some, λ ok. absurd (reason ok))

pub none-stop : (g : Given) (h : Held) (w : World) (buf out : List ℕ) (most : ℕ) (well : Type 0) (why : Why) (r : Machine) → r ≡ stopping h why → w.written ≡ [] → 0 < most → (well → ⊥)
    → Nearer g r w buf out most well
none-stop g h w buf out most well why r is none some reason = nearer-stop g h w buf out most well why r is (none_written g w.written none) some reason

-- ---- from an event that is known

pub at-event : (stage : Stage) (h : Held) (e e' : Event) (buf out out' : List ℕ) (r : Machine) → e ≡ e' → StepsFrom stage h e' buf out r out' → StepsFrom stage h e buf out r out'
at-event stage h e e' buf out out' r is k = subst (λ (x : Event). StepsFrom stage h x buf out r out') (sym is) k

-- ---- so far

by_word : (word : Word) (g : Given) (w : World) → Stopped word g w → Unfinished g w.written
by_word Word.Complete g w k = (λ same. record { later = []; is = sym (k.0 same) ∙ sym (append-nil w.written) }, Sets.agreed k.1)
by_word (Word.Refused refusal) g w k = whole-unfinished g refusal w.written k.1 k.0
by_word (Word.Nothing why) g w k = k

pub so_far : (stage : Stage) (g : Given) (h : Held) (w : World) (buf out : List ℕ) → HoldsAt stage g h w buf out → Unfinished g w.written
so_far Stage.Counting g h w buf out o = none_written g w.written o.unwritten
so_far Stage.Telling g h w buf out o = none_written g w.written o.0.unwritten
so_far Stage.Judging g h w buf out o = none_written g w.written o.0.unwritten
so_far Stage.AskSeconds g h w buf out o = none_written g w.written o.unwritten
so_far Stage.ToSecondPass g h w buf out o = none_written g w.written o.unwritten
so_far Stage.SecondPass g h w buf out o = running-unfinished g h w (left_of w 2) o
so_far (Stage.Write size wants) g h w buf out o =
    unfinished-before g (w.written ++ take size out) w.written (take size out) refl (handing-unfinished g h w buf (w.written ++ take size out) o.handing)
so_far (Stage.Answer size refusal) g h w buf out o = none_written g w.written o.unwritten
so_far (Stage.Stop word) g h w buf out o = by_word word g w o
