-- THE PROGRAM COMPLETES: at a system at which nothing fails that need not, called as it has to be, with buffers that are large enough and a
-- sample file that has the same bytes in both passes, it stops with `Complete` or with a refusal, and all of the text is written. Assumes
-- of the loop what `exchange/specs/World.antt` says.
use Prim.Native.Nat.{ℕ, ◌≤◌, ◌<◌}
use mathlib.Core.Path.{◌≡◌, ap, ◌∙◌}
use mathlib.Core.Bool.{true, false}
use mathlib.Core.List.{List}
use native.Mathlib.Omega.{arith}
use lib.ListN.{length}
use Rattle.rules.specs.Bytes.{SliceHeld}
use Rattle.rules.proofs.Tests.{never}
use Rattle.exchange.specs.declared.action.Action.{Action}
use Rattle.exchange.specs.declared.action.Word.{Word}
use Rattle.exchange.specs.declared.event.Event.{Event}
use Rattle.exchange.specs.World.{World, Fits, after}
use Rattle.exchange.specs.Existing as existing
use Rattle.exchange.specs.Existing.{WorldHeld, EventHeld, Answered, WellEvents, Lists, gives_up}
use Rattle.exchange.proofs.Expected.{HasRoom, well-unfailed, fits-size, after-arguments}
use Rattle.exchange.proofs.Words.{is_answer, answer-of}
use Rattle.exchange.proofs.WellLaws.{well-keep}
use Rattle.judging.specs.declared.state.JudgeStage.{JudgeStage}
use Rattle.judging.proofs.AskLaws.{reading-room}
use Rattle.run_stages.specs.declared.state.Stage.{Stage}
use Rattle.run_stages.specs.Stages.{Machine, asks, asks_of}
use Rattle.run_stages.specs.Given.{Given, text, RightCall}
use Rattle.run_stages.specs.Holds.{Stopped, Holds}
use Rattle.run_machine.specs.Steps.{Steps, Starting, Opens}
use Rattle.run_machine.proofs.Program.{Opened, Stepped, open-owes, step-owes, at-stop}
use Rattle.run_machine.proofs.Existing.{MachineHeld, run-exists}

-- a buffer that is not empty has a part for what the program reads
asks-room : (stage : Stage) (reading : JudgeStage) (before : List ℕ) → 0 < length before → HasRoom (asks stage reading) before
asks-room Stage.Counting reading before some = tt
asks-room Stage.Telling reading before some = tt
asks-room Stage.Judging reading before some = reading-room reading before some
asks-room Stage.AskSeconds reading before some = tt
asks-room Stage.ToSecondPass reading before some = tt
asks-room Stage.SecondPass reading before some = omega (arith, some)
asks-room (Stage.Write size wants) reading before some = tt
asks-room (Stage.Answer size refusal) reading before some = tt
asks-room (Stage.Stop word) reading before some = tt

-- what such a program has at each state: it has not given up
record Going (g : Given) (m : Machine) (w : World) (buf out : List ℕ) : Type 0 where
  holds : Holds g m w buf out
  reads : 10 ≤ length buf
  room : 256 ≤ length out
  call : RightCall w.count (w.arguments 4)
  on : gives_up (asks_of m) ≡ false

-- the call stays right
call_kept : (count count' : ℕ) (arguments arguments' : ℕ → List ℕ) → count' ≡ count → arguments' ≡ arguments → RightCall count (arguments 4) → RightCall count' (arguments' 4)
call_kept count count' arguments arguments' c a (RightCall.plain four) = RightCall.plain (c ∙ four)
call_kept count count' arguments arguments' c a (RightCall.told five word) = RightCall.told (c ∙ five) (ap (λ (f : ℕ → List ℕ). f 4) a ∙ word)

-- it goes on
goes_on : (g : Given) → g.again ≡ g.samples → (m : Machine) (e : Event) (w : World) (before buf out : List ℕ) (some : ℕ) (r : Machine) (out' : List ℕ) → Going g m w before out → existing.Well (asks_of m) e before
    → Fits (asks_of m) e w before buf → Stepped m e buf out r out' → Going g r (after (asks_of m) e some w out) buf out'
unfolding Steps
goes_on g same m e w before buf out some r out' k well fits one =
    let s = step-owes one in
    let n = s.1 g w before some k.holds fits in
    let kept = after-arguments (asks_of m) e some w out in
    let size = fits-size (asks_of m) e w before buf fits in
    let left = s.0 in
    let few = k.reads in
    let lent = k.room in
    let reads : 10 ≤ length buf = omega (arith, size, few) in
    record {
      holds = n.0;
      reads = reads;
      room = omega (arith, left, lent);
      call = call_kept w.count (after (asks_of m) e some w out).count w.arguments (after (asks_of m) e some w out).arguments kept.0 kept.1 k.call;
      on = n.2 (record { event = well-unfailed (asks_of m) e before well (asks-room m.stage m.held.judging.stage before (omega (arith, few))); reads = reads; room = lent; call = k.call; same = same });
    }

-- the program begins, called as it has to be, with buffers that are large enough and a file that stays as it is
pub record Rightly (g : Given) (start : World) (buf out : List ℕ) : Type 0 where
  pub starts : Starting g start
  pub call : RightCall start.count (start.arguments 4)
  pub reads : 10 ≤ length buf
  pub room : 256 ≤ length out
  pub same : g.again ≡ g.samples

-- WHAT IT COMES TO: `Complete` or a refusal, and all of the text is written
pub record Completes (g : Given) (word : Word) (end : World) : Type 0 where
  pub answers : is_answer word ≡ true
  pub whole : end.written ≡ text g

-- a stop with an answer has all of the text
all-written : (word : Word) (g : Given) (w : World) → g.again ≡ g.samples → is_answer word ≡ true → Stopped word g w → w.written ≡ text g
all-written Word.Complete g w same some k = k.0 same
all-written (Word.Refused refusal) g w same some k = k.0
all-written (Word.Nothing why) g w same some k = never some

-- ---- THE THEOREM: of every such list of events up to a stop

pub run-completes : (n : ℕ) (first last : Machine) (g : Given) (start end : World) (buf out : List ℕ) (word : Word) → Opened first → Rightly g start buf out
    → WellEvents asks_of Stepped n first start buf out last end → asks_of last ≡ Action.Stop word → Completes g word end
unfolding Opens
run-completes n first last g start end buf out word o s events stops =
    let opened = open-owes o g start buf out s.starts in
    let k = well-keep asks_of Stepped (Going g) (goes_on g s.same) events (record { holds = opened.0; reads = s.reads; room = s.room; call = s.call; on = opened.2 }) in
    let some = answer-of (asks_of last) word k.holds.on stops in
    record { answers = some; whole = all-written word g end s.same some (at-stop last.stage word g last.held end k.buf k.out some stops k.holds.holds) }

-- ---- AND SUCH A LIST EXISTS: where `next` answers whatever its types can hold, the program writes the whole text of every world of bytes
-- that starts so, and stops with `Complete` or with a refusal

pub record Answers (g : Given) (first : Machine) (start : World) (buf out : List ℕ) : Type 0 where
  pub list : Lists asks_of Stepped first start buf out
  pub completes : Completes g list.word list.end

pub run-answers : ((m : Machine) (e : Event) (buf out : List ℕ) → MachineHeld m → EventHeld e → SliceHeld buf → SliceHeld out → Answered Stepped MachineHeld m e buf out)
    → (first : Machine) (g : Given) (start : World) (buf out : List ℕ) → Opened first → MachineHeld first → WorldHeld start → SliceHeld buf → SliceHeld out → Rightly g start buf out
    → Answers g first start buf out
run-answers answers first g start buf out o held world slice lent s =
    let l = run-exists answers first g start buf out o held s.starts world slice lent in
    record { list = l; completes = run-completes l.count first l.last g start l.end buf out l.word o s l.well l.stops }
