-- How the program was called, and the reading of both files inside it. Assumes nothing.
use Rattle.std.specs.Prelude.{nat_eq}
use Rattle.std.specs.List.{starts_with}
use Prim.Native.Nat.{ℕ, ◌≤◌, min}
use mathlib.Core.Path.{◌≡◌, refl, sym, ap, ◌∙◌, subst}
use mathlib.Core.Bool.{Bool, true, false}
use mathlib.Core.List.{List, [], ◌∷◌}
use native.Mathlib.Omega.{arith}
use lib.Pointwise.{pointwise}
use lib.ListN.{length, take, length-take}
use lib.Seq.{take_all}
use Rattle.rules.proofs.Tests.{never}
use Rattle.exchange.specs.declared.action.Why.{Why}
use Rattle.exchange.specs.declared.event.Event.{Event}
use Rattle.exchange.specs.Existing.{gives_up}
use Rattle.exchange.specs.World.{after}
use Rattle.judging.specs.declared.state.JudgeStage.{JudgeStage}
use Rattle.judging.specs.Stages.{Judging}
use Rattle.judging.specs.Stages.{judge_asks, is_stopped}
use Rattle.judging.specs.Holds.{JudgeHoldsAt, JudgesFrom}
use Rattle.judging.proofs.FrameLaws.{judging-writes-nothing, judging-keeps-arguments}
use Rattle.run_stages.specs.declared.state.Stage.{Stage}
use Rattle.run_stages.specs.declared.state.Held.{Held}
use Rattle.run_stages.specs.Stages.{Machine, stopping}
use Rattle.run_stages.specs.Given.{files_of, RightCall, Called}
use Rattle.run_stages.specs.StageSteps.{StepsFrom}
use Rattle.run_calling.specs.Calls.{CallsWith, Tells, Names}
use Rattle.run_stages.proofs.StopLaws.{none-stop}

-- ---- how it was called

pub plain-call : (h : Held) (count : ℕ) → count ≡ 4 → CallsWith h count (record { stage = Stage.Judging; held = h })
unfolding CallsWith
plain-call h count four g w buf out k is = ((k, Called.plain (sym is ∙ four)), omega arith, λ well. k.ready)

pub word-call : (h : Held) (count : ℕ) → count ≡ 5 → CallsWith h count (record { stage = Stage.Telling; held = h })
unfolding CallsWith
word-call h count five g w buf out k is = ((k, sym is ∙ five), omega arith, λ well. refl)

-- no other call is right
pub wrong-call : (h : Held) (count : ℕ) (why : Why) (r : Machine) → (count ≡ 4 → ⊥) → (count ≡ 5 → ⊥) → r ≡ stopping h why → CallsWith h count r
unfolding CallsWith
wrong-call h count why r four five stop g w buf out k is = none-stop g h w buf out _ _ why r stop k.unwritten (omega arith) right
  where
    right : RightCall w.count (w.arguments 4) → ⊥
    right (RightCall.plain e) = four (is ∙ e)
    right (RightCall.told e word) = five (is ∙ e)

abbrev pub with_told : Held → Held
with_told h = record { judging = h.judging; second = h.second; simulation = h.simulation; chunk = h.chunk; at = h.at; ended = h.ended; told = true; working = h.working }

pub told-call : (h : Held) (told : Bool) → Names h told (record { stage = Stage.Judging; held = with_told h })
unfolding Names
told-call h told g w buf out k five = ((record { ready = k.ready; files = k.files; second = k.second; asked = k.asked; unwritten = k.unwritten }, Called.told five), omega arith, λ well. k.ready)

-- another word is no right call
pub untold-call : (h : Held) (told : Bool) (why : Why) (r : Machine) → told ≡ false → r ≡ stopping h why → Names h told r
unfolding Names
untold-call h told why r other stop g w buf out k five = none-stop g h w buf out _ _ why r stop k.unwritten (omega arith) (λ well. never (sym other ∙ well))

-- ---- the word

-- an argument that is the word has two bytes
pub word_size : (word : List ℕ) (size : ℕ) → size ≤ length word → take size word ≡ 45 ∷ 51 ∷ [] → size ≡ 2
word_size word size within e =
    let taken : length (take size word) ≡ min size (length word) = length-take size word in
    let two : length (take size word) ≡ 2 = ap length e in
    omega (arith, within, taken, two)

-- the tests of the size and of the bytes tell the word
pub word-told : (word : List ℕ) (size : ℕ) → size ≤ length word → take size word ≡ 45 ∷ 51 ∷ [] → (size ≡ 2) × (starts_with nat_eq word (45 ∷ 51 ∷ []) ≡ true)
word-told word size within e =
    let two = word_size word size within e in
    let word-is : take 2 word ≡ 45 ∷ 51 ∷ [] = subst (λ (n : ℕ). take n word ≡ 45 ∷ 51 ∷ []) two e in
    (two, ap (pointwise nat_eq (45 ∷ 51 ∷ [])) word-is)

-- ---- the steps of the call

pub count-steps : (h : Held) (n : ℕ) (buf out out' : List ℕ) (r : Machine) → CallsWith h n r → StepsFrom Stage.Counting h (Event.Count n) buf out r out'
unfolding StepsFrom CallsWith
count-steps h n buf out out' r calls g w before some o f ten roomy = let k = calls g w buf out' o f.0 in (k.0, k.1, λ well. k.2 well.call)

-- the fifth argument is the word where the call is right
word-is : (count : ℕ) (word : List ℕ) → count ≡ 5 → RightCall count word → word ≡ 45 ∷ 51 ∷ []
word-is count word five (RightCall.plain four) = absurd (omega (arith, five, four))
word-is count word five (RightCall.told e is) = is

-- ten bytes hold all of the word
take-two : (n : ℕ) (word : List ℕ) → 10 ≤ n → word ≡ 45 ∷ 51 ∷ [] → take n word ≡ 45 ∷ 51 ∷ []
take-two n word ten is = take_all n word (let two : length word ≡ 2 = ap length is in omega (arith, ten, two)) ∙ is

pub tell-steps : (h : Held) (n : ℕ) (told : Bool) (buf out out' : List ℕ) (r : Machine) → Tells buf n told → Names h told r → StepsFrom Stage.Telling h (Event.Read n) buf out r out'
unfolding StepsFrom Tells Names
tell-steps h n told buf out out' r tells names g w before some o f ten roomy =
    let k = names g w buf out' o.0 o.1 in
    (k.0, k.1, λ well. k.2 (tells f.0.0 (f.0.1 ∙ take-two (length buf) (w.arguments 4) ten (word-is w.count (w.arguments 4) o.1 well.call))))

-- ---- the files inside the program

abbrev pub with_judging : Held → Judging → Held
with_judging h j = record { judging = j; second = h.second; simulation = h.simulation; chunk = h.chunk; at = h.at; ended = h.ended; told = h.told; working = h.working }

-- `judge` was handed what is held, and gave j
module _ (h : Held) (e : Event) (buf out out' : List ℕ) (j : Judging) (judges : JudgesFrom h.judging.stage h.judging.held e buf j) where
  -- the files are read on
  pub read-on-steps : gives_up (judge_asks j.stage) ≡ false → StepsFrom Stage.Judging h e buf out (record { stage = Stage.Judging; held = with_judging h j }) out'
  unfolding StepsFrom JudgesFrom
  read-on-steps ready g w before some o f ten roomy =
      let k = judges (files_of g) w before out some o.0.files f in
      let nearer = k.1 in (
        (
          record {
            ready = ready;
            files = k.0;
            second = o.0.second;
            asked = ap (λ (a : ℕ → List ℕ). a 3) (judging-keeps-arguments h.judging.stage e some w out).1 ∙ o.0.asked;
            unwritten = judging-writes-nothing h.judging.stage e some w out ∙ o.0.unwritten;
          },
          subst Called (sym (judging-keeps-arguments h.judging.stage e some w out).0) o.1,
        ),
        omega (arith, nearer),
        λ well. ready,
      )

  -- both are judged
  pub judged-steps : j.stage ≡ JudgeStage.Judged → StepsFrom Stage.Judging h e buf out (record { stage = Stage.AskSeconds; held = with_judging h j }) out'
  unfolding StepsFrom JudgesFrom
  judged-steps is g w before some o f ten roomy =
      let k = judges (files_of g) w before out some o.0.files f in
      let nearer = k.1 in (
        record {
          called = subst Called (sym (judging-keeps-arguments h.judging.stage e some w out).0) o.1;
          files = subst (λ (stage : JudgeStage). JudgeHoldsAt stage (files_of g) j.held (after (judge_asks h.judging.stage) e some w out)) is k.0;
          second = o.0.second;
          asked = ap (λ (a : ℕ → List ℕ). a 3) (judging-keeps-arguments h.judging.stage e some w out).1 ∙ o.0.asked;
          unwritten = judging-writes-nothing h.judging.stage e some w out ∙ o.0.unwritten;
        },
        omega (arith, nearer),
        λ well. refl,
      )

  -- one could not be read, which is a failure
  pub unread-steps : (why why' : Why) (r : Machine) → j.stage ≡ JudgeStage.Stopped why → r ≡ stopping (with_judging h j) why' → StepsFrom Stage.Judging h e buf out r out'
  unfolding StepsFrom JudgesFrom
  unread-steps why why' r is stop g w before some o f ten roomy =
      let k = judges (files_of g) w before out some o.0.files f in
      none-stop g (with_judging h j) (after (judge_asks h.judging.stage) e some w out) buf out' _ _ why' r stop (judging-writes-nothing h.judging.stage e some w out ∙ o.0.unwritten) (omega arith)
      (λ well. never (sym (k.2 well.event) ∙ ap is_stopped is))
