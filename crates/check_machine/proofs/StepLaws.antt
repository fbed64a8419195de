-- What the steps from each stage keep. Assumes nothing.
use Prim.Native.Nat.{ℕ, ◌+◌, ◌<◌}
use mathlib.Core.Path.{◌≡◌, refl, sym, ap, ◌∙◌, subst}
use mathlib.Core.Bool.{false}
use mathlib.Core.List.{List, ◌∷◌, ◌++◌}
use native.Mathlib.Omega.{arith}
use lib.ListN.{length, take, drop}
use Rattle.rules.specs.declared.answers.Refusal.{Refusal}
use Rattle.rules.proofs.Tests.{never}
use Rattle.exchange.specs.declared.action.Why.{Why}
use Rattle.exchange.specs.declared.action.Word.{Word}
use Rattle.exchange.specs.declared.event.Event.{Event}
use Rattle.exchange.specs.Existing.{gives_up}
use Rattle.exchange.specs.World.{World, left_of, again_of, with_file, after, after_read}
use Rattle.judging.specs.declared.state.JudgeStage.{JudgeStage}
use Rattle.judging.specs.Stages.{Judging}
use Rattle.judging.specs.Stages.{judge_asks, is_stopped}
use Rattle.judging.specs.Holds.{Judged, JudgeHoldsAt, JudgesFrom}
use Rattle.judging.proofs.StopLaws.{less-left}
use Rattle.judging.proofs.FrameLaws.{read-frame, judging-writes-nothing, judging-keeps-arguments}
use Rattle.check_machine.specs.declared.state.Stage.{Stage}
use Rattle.check_machine.specs.declared.state.Held.{Held}
use Rattle.check_machine.specs.Stages.{Machine}
use Rattle.check_machine.specs.Stages.{asks, stopping, moved_by}
use Rattle.check_machine.specs.Holds.{text, WordMeans, HoldsAt, steps_at, Well, Nearer, StepsFrom, Answers, Searches}
use Rattle.check_machine.proofs.StopLaws.{begins-none, told-begins, after_write_lem}

-- ---- the arguments

pub count-right : (h : Held) (n : ℕ) (buf out : List ℕ) → n ≡ 3 → StepsFrom Stage.Counting h (Event.Count n) buf out (record { stage = Stage.Judging; held = h }) out
unfolding StepsFrom
count-right h n buf out is g w before some o f = ((o, sym f.0 ∙ is), omega arith, λ well. o.ready)

-- ---- both files are read

abbrev pub with_judging : Held → Judging → Held
with_judging h j = record { judging = j; heading = h.heading; line = h.line }

module _ (h : Held) (e : Event) (buf out : List ℕ) (j : Judging) (judges : JudgesFrom h.judging.stage h.judging.held e buf j) where
  pub reads_on : gives_up (judge_asks j.stage) ≡ false → StepsFrom Stage.Judging h e buf out (record { stage = Stage.Judging; held = with_judging h j }) out
  unfolding StepsFrom JudgesFrom
  reads_on ready g w before some o f =
      let k = judges g w before out some o.0.judges f in
      let less = k.1 in (
        (record { ready = ready; judges = k.0; unwritten = judging-writes-nothing h.judging.stage e some w out ∙ o.0.unwritten }, (judging-keeps-arguments h.judging.stage e some w out).0 ∙ o.1),
        omega (arith, less),
        λ well. ready,
      )

  pub judged-steps : (r : Machine) (out' : List ℕ) → j.stage ≡ JudgeStage.Judged → Answers (with_judging h j) out r out' → StepsFrom Stage.Judging h e buf out r out'
  unfolding StepsFrom JudgesFrom Answers
  judged-steps r out' is answers g w before some o f =
      let w' : World = after (judge_asks h.judging.stage) e some w out in
      let k = judges g w before out some o.0.judges f in
      let judged : Judged g j.held w' = subst (λ (s : JudgeStage). JudgeHoldsAt s g j.held w') is k.0 in
      let a = answers g w' (record { unwritten = judging-writes-nothing h.judging.stage e some w out ∙ o.0.unwritten; called = (judging-keeps-arguments h.judging.stage e some w out).0 ∙ o.1 }) judged in
      let less = k.1 in
      let nearer = a.1 in
      (a.0, omega (arith, less, nearer), λ well. a.2 well.room)

  -- a file could not be read, which is a failure
  pub unread-steps : (why why' : Why) (r : Machine) → j.stage ≡ JudgeStage.Stopped why → r ≡ stopping (with_judging h j) why' → StepsFrom Stage.Judging h e buf out r out
  unfolding StepsFrom JudgesFrom
  unread-steps why why' r is stop g w before some o f =
      let w' : World = after (judge_asks h.judging.stage) e some w out in
      let k = judges g w before out some o.0.judges f in
      subst (λ (m : Machine). Nearer g m w' out (steps_at Stage.Judging g h w) (Well w e buf out)) (sym stop)
      (begins-none (text g) w'.written (judging-writes-nothing h.judging.stage e some w out ∙ o.0.unwritten), omega arith, λ well. never (sym (k.2 well.event) ∙ ap is_stopped is))

-- ---- the answer is written

pub answer-steps : (size : ℕ) (word : Word) (h : Held) (e : Event) (buf out : List ℕ) → StepsFrom (Stage.Answer size word) h e buf out (moved_by e h (Stage.Stop word) (Stage.Stop (Word.Nothing Why.Unwritten))) out
unfolding StepsFrom
answer-steps size word h Event.Done buf out g w before some k f = (k.0, omega arith, λ well. k.1)
answer-steps size word h (Event.Count n) buf out g w before some k f = absurd f.0
answer-steps size word h (Event.Read n) buf out g w before some k f = absurd f.0
answer-steps size word h Event.End buf out g w before some k f = absurd f.0
answer-steps size word h Event.Failed buf out g w before some k f = (after_write_lem (text g) Event.Failed size some w out tt (told-begins word g w.count (w.written ++ take size out) k.0), omega arith, λ well. never (sym well.event))

pub line-answer-steps : (size : ℕ) (r : Refusal) (h : Held) (e : Event) (buf out : List ℕ) → StepsFrom (Stage.LineAnswer size r) h e buf out (moved_by e h (Stage.ToLines r) (Stage.Stop (Word.Nothing Why.Unwritten))) out
unfolding StepsFrom
line-answer-steps size r h Event.Done buf out g w before some k f = (k, omega arith, λ well. refl)
line-answer-steps size r h (Event.Count n) buf out g w before some k f = absurd f.0
line-answer-steps size r h (Event.Read n) buf out g w before some k f = absurd f.0
line-answer-steps size r h Event.End buf out g w before some k f = absurd f.0
line-answer-steps size r h Event.Failed buf out g w before some k f = (after_write_lem (text g) Event.Failed size some w out tt (told-begins (Word.Refused r) g w.count (w.written ++ take size out) k), omega arith, λ well. never (sym well.event))

-- ---- the lines are sought: the answer stands, whatever comes of it

pub to-lines-steps : (r : Refusal) (h : Held) (e : Event) (buf out : List ℕ) → StepsFrom (Stage.ToLines r) h e buf out (moved_by e h (Stage.Lines r) (Stage.Stop (Word.Refused r))) out
unfolding StepsFrom
to-lines-steps r h Event.Done buf out g w before some k f = (k, omega arith, λ well. refl)
to-lines-steps r h (Event.Count n) buf out g w before some k f = absurd f.0
to-lines-steps r h (Event.Read n) buf out g w before some k f = absurd f.0
to-lines-steps r h Event.End buf out g w before some k f = absurd f.0
to-lines-steps r h Event.Failed buf out g w before some k f = (k, omega arith, λ well. refl)

pub search-steps : (refusal : Refusal) (h : Held) (n : ℕ) (buf out : List ℕ) (r : Machine) → Searches refusal r → StepsFrom (Stage.Lines refusal) h (Event.Read n) buf out r out
unfolding StepsFrom Searches
search-steps refusal h n buf out r searches g w before some k f =
    let w' : World = with_file w 2 (drop n (left_of w 2) ∷ again_of w 2) in
    let fewer : length (drop n (left_of w 2)) < length (left_of w 2) = less-left n buf (left_of w 2) f.0.0 (let h = f.0.1 in omega (arith, h)) f.0.2 in
    let s = searches g w' out k in
    let nearer = s.1 in
    (s.0, omega (arith, nearer, fewer), λ well. s.2 tt)

pub search-ends : (refusal : Refusal) (h : Held) (e : Event) (buf out : List ℕ) (r : Machine) → r.stage ≡ Stage.Stop (Word.Refused refusal) → StepsFrom (Stage.Lines refusal) h e buf out r out
unfolding StepsFrom
search-ends refusal h e buf out r is g w before some k f =
    let w' : World = after_read e 2 w in
    let told : WordMeans (Word.Refused refusal) g w'.count w'.written = ((read-frame e 2 w).written ∙ k.0, k.1, (read-frame e 2 w).count ∙ k.2) in
    subst (λ (s : Stage). HoldsAt s g r.held w' out × (steps_at s g r.held w' < length (left_of w 2) + 1) × (Well w e buf out → gives_up (asks s r.held.judging.stage) ≡ false)) (sym is)
    (told, omega arith, λ well. refl)

-- found, or not yet
pub line-found : (refusal : Refusal) (h : Held) → Searches refusal (record { stage = Stage.Stop (Word.Refused refusal); held = h })
unfolding Searches
line-found refusal h g w out k = (k, omega arith, λ well. refl)

pub line-awaited : (refusal : Refusal) (h : Held) → Searches refusal (record { stage = Stage.Lines refusal; held = h })
unfolding Searches
line-awaited refusal h g w out k = (k, omega arith, λ well. refl)
