-- The first state, the steps in which what was asked for was done, and a step by the size of its buffers. Assumes nothing.
use Prim.Native.Nat.{ℕ, ◌+◌, ◌≤◌}
use mathlib.Core.Path.{◌≡◌, refl, sym, ap, ◌∙◌, subst}
use mathlib.Core.Bool.{true}
use mathlib.Core.List.{List, ◌++◌}
use native.Mathlib.Omega.{arith}
use lib.ListN.{length, take}
use Rattle.rules.specs.declared.answers.Refusal.{Refusal}
use Rattle.tally.specs.declared.Tally.{Tally}
use Rattle.tally.specs.Tally.{no_bytes, tallied_of}
use Rattle.exchange.specs.declared.action.Why.{Why}
use Rattle.exchange.specs.declared.action.Word.{Word}
use Rattle.exchange.specs.declared.event.Event.{Event}
use Rattle.exchange.specs.Existing.{gives_up}
use Rattle.exchange.specs.World.{left_of, after, left_in, again_of}
use Rattle.judging.specs.declared.state.JudgeStage.{JudgeStage}
use Rattle.judging.specs.Stages.{judge_asks}
use Rattle.judging.specs.Holds as judging
use Rattle.judging.specs.Holds.{JudgeHolds, judge_steps, judge_steps_at, JudgeHoldsAt}
use Rattle.run_stages.specs.declared.state.Stage.{Stage}
use Rattle.run_stages.specs.declared.state.Held.{Held}
use Rattle.run_stages.specs.Stages.{Machine, asks_of, stopping, moved_by}
use Rattle.run_stages.specs.Given.{Goes, OfSome, files_of}
use Rattle.run_stages.specs.Holds.{steps_left}
use Rattle.run_stages.specs.StageSteps.{Well, Nearer, StepsFrom}
use Rattle.run_stages.proofs.StopLaws.{stops, some_left, stop-steps}
use Rattle.run_machine.specs.Steps.{Steps, Opens}

-- ---- the first state

pub opens-so : (h : Held) → judging.Begins true h.judging → h.second ≡ no_bytes → Opens (record { stage = Stage.Counting; held = h })
unfolding Opens
opens-so h begun none g w buf out s =
    let u : judging.Unread true (files_of g) w = record { station = s.station; ahead = s.passes } in
    let opening = begun.holds (files_of g) w u in
    let files : JudgeHolds (files_of g) h.judging w = subst (λ (stage : JudgeStage). JudgeHoldsAt stage (files_of g) h.judging.held w) (sym begun.stage_is) opening in
    let steps : judge_steps (files_of g) h.judging w ≡ length (left_of w 1) + length g.samples + 5 = ap (λ (stage : JudgeStage). judge_steps_at stage (files_of g) w) begun.stage_is in
    let size : length (left_of w 1) ≡ length g.station = ap length s.station in
    (record { ready = ap (λ (stage : JudgeStage). gives_up (judge_asks stage)) begun.stage_is; files = files; second = none; asked = s.asked; unwritten = s.unwritten }, omega (arith, steps, size), refl)

-- ---- what was asked for was done

-- at the start none is counted
none-counted : no_bytes.count ≡ 0
unfolding no_bytes
none-counted = refl

-- the second pass begins
pub to-second-pass : (h : Held) (e : Event) (buf out : List ℕ) → StepsFrom Stage.ToSecondPass h e buf out (moved_by e h Stage.SecondPass (Why.ReadOnce 2)) out
unfolding StepsFrom
to-second-pass h Event.Done buf out g w before some o f ten roomy =
    let left : left_in (again_of w 2) ≡ g.again = ap left_in o.passes in
    let same : length (left_in (again_of w 2)) ≡ length g.again = ap length left in (
      record {
        called = o.called;
        goes = λ eq. subst (λ (l : List ℕ). Goes g h.simulation l w.written) (sym left) (subst (λ (l : List ℕ). Goes g h.simulation g.again l) (sym o.unwritten) (o.goes eq));
        rows = subst (OfSome h.simulation) (sym o.unwritten) o.rows;
        first = o.first;
        second = ap (tallied_of h.second) left ∙ ap (λ (t : Tally). tallied_of t g.again) o.second;
        counted = λ eq. let none : h.second.count ≡ 0 = ap (λ (t : Tally). t.count) o.second ∙ none-counted in omega (arith, none, same);
      },
      omega (arith, same),
      λ well. refl,
    )
to-second-pass h (Event.Count n) buf out g w before some o f ten roomy = absurd f.0
to-second-pass h (Event.Read n) buf out g w before some o f ten roomy = absurd f.0
to-second-pass h Event.End buf out g w before some o f ten roomy = absurd f.0
to-second-pass h Event.Failed buf out g w before some o f ten roomy = stop-steps Stage.ToSecondPass h Event.Failed Event.Failed buf out out (Why.ReadOnce 2) _ refl refl refl g w before some o f ten roomy

-- a refusal's line was written
pub answer-steps : (h : Held) (size : ℕ) (refusal : Refusal) (e : Event) (buf out : List ℕ) → StepsFrom (Stage.Answer size refusal) h e buf out (moved_by e h (Stage.Stop (Word.Refused refusal)) Why.Unwritten) out
unfolding StepsFrom
answer-steps h size refusal Event.Done buf out g w before some o f ten roomy = ((ap (λ (l : List ℕ). l ++ take size out) o.unwritten ∙ o.line, o.carried, o.called), omega arith, λ well. refl)
answer-steps h size refusal (Event.Count n) buf out g w before some o f ten roomy = absurd f.0
answer-steps h size refusal (Event.Read n) buf out g w before some o f ten roomy = absurd f.0
answer-steps h size refusal Event.End buf out g w before some o f ten roomy = absurd f.0
answer-steps h size refusal Event.Failed buf out g w before some o f ten roomy = stop-steps (Stage.Answer size refusal) h Event.Failed Event.Failed buf out out Why.Unwritten _ refl refl refl g w before some o f ten roomy

-- ---- the step, by its buffers and from a stage that is known

-- with buffers that are too small the program stops
pub small-steps : (m : Machine) (e : Event) (buf out : List ℕ) (why : Why) (r : Machine) → (10 ≤ length buf → 256 ≤ length out → ⊥) → r ≡ stopping m.held why → Steps m e buf out r out
unfolding Steps
small-steps m e buf out why r small is = (
  refl,
  λ g w before some o f. subst (λ (m' : Machine). Nearer g m' (after (asks_of m) e some w out) buf out (steps_left g m w) (Well g w e buf out)) (sym is)
      (stops m.stage g m.held w before buf out e some o f, some_left m.stage g m.held e w before buf f, λ well. absurd (small well.reads well.room)),
)

-- with buffers that are large enough it is a step from its stage
pub large-steps : (m : Machine) (e : Event) (buf out out' : List ℕ) (r : Machine) → 10 ≤ length buf → 256 ≤ length out → length out' ≡ length out → StepsFrom m.stage m.held e buf out r out'
    → Steps m e buf out r out'
unfolding Steps StepsFrom
large-steps m e buf out out' r ten roomy size k = (size, λ g w before some o f. k g w before some o f ten roomy)

pub at_stage : (stage stage' : Stage) (h : Held) (e : Event) (buf out out' : List ℕ) (r : Machine) → stage ≡ stage' → StepsFrom stage' h e buf out r out' → StepsFrom stage h e buf out r out'
at_stage stage stage' h e buf out out' r is k = subst (λ (x : Stage). StepsFrom x h e buf out r out') (sym is) k
