-- THE PROGRAM COMPLETES: at a system at which nothing fails that need not, called with two arguments and with buffers that are large enough,
-- it stops with `Complete` or with a refusal, and all of the text is written. Assumes of the loop what `exchange/specs/World.antt` says.
use Prim.Native.Nat.{ℕ, ◌≤◌, ◌<◌}
use mathlib.Core.Path.{◌≡◌, ap, ◌∙◌}
use mathlib.Core.Bool.{true, false}
use mathlib.Core.List.{List}
use native.Mathlib.Omega.{arith}
use lib.ListN.{length}
use Rattle.rules.specs.Bytes.{SliceHeld}
use Rattle.rules.proofs.Tests.{never}
use Rattle.exchange.specs.declared.action.Action.{Action}
use Rattle.exchange.specs.declared.action.Word.{Word}
use Rattle.exchange.specs.declared.event.Event.{Event}
use Rattle.exchange.specs.World.{World, Fits, after}
use Rattle.exchange.specs.Existing as existing
use Rattle.exchange.specs.Existing.{WorldHeld, EventHeld, Answered, WellEvents, Lists, gives_up}
use Rattle.exchange.proofs.Expected.{HasRoom, well-unfailed, fits-size, after-arguments}
use Rattle.exchange.proofs.Words.{is_answer, answer-of}
use Rattle.exchange.proofs.WellLaws.{well-keep}
use Rattle.judging.specs.declared.state.JudgeStage.{JudgeStage}
use Rattle.judging.specs.Holds.{Files}
use Rattle.judging.proofs.AskLaws.{reading-room}
use Rattle.check_machine.specs.declared.state.Stage.{Stage}
use Rattle.check_machine.specs.Stages.{Machine}
use Rattle.check_machine.specs.Stages.{asks, asks_of}
use Rattle.check_machine.specs.Holds.{text, WordMeans, Holds, StepsFrom, Steps, Starting}
use Rattle.check_machine.proofs.Program.{Opened, Stepped, open-owes, step-owes, opens-holds, at-stop}
use Rattle.check_machine.proofs.Existing.{MachineHeld, check-exists}

-- a buffer that is not empty has a part for what the program reads
asks-room : (stage : Stage) (reading : JudgeStage) (before : List ℕ) → 0 < length before → HasRoom (asks stage reading) before
asks-room Stage.Counting reading before some = tt
asks-room Stage.Judging reading before some = reading-room reading before some
asks-room (Stage.Answer size word) reading before some = tt
asks-room (Stage.LineAnswer size refusal) reading before some = tt
asks-room (Stage.ToLines refusal) reading before some = tt
asks-room (Stage.Lines refusal) reading before some = omega (arith, some)
asks-room (Stage.Stop word) reading before some = tt

-- what such a program has at each state: it has not given up
record Going (g : Files) (m : Machine) (w : World) (buf out : List ℕ) : Type 0 where
  holds : Holds g m w out
  reads : 0 < length buf
  room : 256 ≤ length out
  call : w.count ≡ 3
  on : gives_up (asks_of m) ≡ false

-- it goes on
goes_on : (g : Files) (m : Machine) (e : Event) (w : World) (before buf out : List ℕ) (some : ℕ) (r : Machine) (out' : List ℕ) → Going g m w before out → existing.Well (asks_of m) e before
    → Fits (asks_of m) e w before buf → Stepped m e buf out r out' → Going g r (after (asks_of m) e some w out) buf out'
unfolding Steps StepsFrom
goes_on g m e w before buf out some r out' k well fits one =
    let s = step-owes one in
    let n = s.1 g w before some k.holds fits in
    let size = fits-size (asks_of m) e w before buf fits in
    let left = s.0 in
    let few = k.reads in
    let lent = k.room in
    let reads : 0 < length buf = omega (arith, size, few) in
    record {
      holds = n.0;
      reads = reads;
      room = omega (arith, left, lent);
      call = (after-arguments (asks_of m) e some w out).0 ∙ k.call;
      on = n.2 (record { event = well-unfailed (asks_of m) e before well (asks-room m.stage m.held.judging.stage before few); reads = reads; room = lent; call = k.call });
    }

-- the program begins, called with two arguments and with buffers that are large enough
pub record Rightly (g : Files) (start : World) (buf out : List ℕ) : Type 0 where
  pub starts : Starting g start
  pub call : start.count ≡ 3
  pub reads : 0 < length buf
  pub room : 256 ≤ length out

-- WHAT IT COMES TO: `Complete` or a refusal, and all of the text is written
pub record Completes (g : Files) (word : Word) (end : World) : Type 0 where
  pub answers : is_answer word ≡ true
  pub whole : end.written ≡ text g

-- a stop with an answer has all of the text
all-written : (word : Word) (g : Files) (w : World) → is_answer word ≡ true → WordMeans word g w.count w.written → w.written ≡ text g
all-written Word.Complete g w some k = k.0
all-written (Word.Refused refusal) g w some k = k.0
all-written (Word.Nothing why) g w some k = never some

-- ---- THE THEOREM: of every such list of events up to a stop

pub check-completes : (n : ℕ) (first last : Machine) (g : Files) (start end : World) (buf out : List ℕ) (word : Word) → Opened first → Rightly g start buf out
    → WellEvents asks_of Stepped n first start buf out last end → asks_of last ≡ Action.Stop word → Completes g word end
check-completes n first last g start end buf out word o s events stops =
    let on : gives_up (asks_of first) ≡ false = ap (λ (stage : Stage). gives_up (asks stage first.held.judging.stage)) (open-owes o).stage_is in
    let k = well-keep asks_of Stepped (Going g) (goes_on g) events (record { holds = opens-holds g first start out (open-owes o) s.starts; reads = s.reads; room = s.room; call = s.call; on = on }) in
    let some = answer-of (asks_of last) word k.holds.on stops in
    record { answers = some; whole = all-written word g end some (at-stop last.stage word g last.held end k.out some stops k.holds.holds) }

-- ---- AND SUCH A LIST EXISTS: where `next` answers whatever its types can hold, the program writes the whole text of every world of bytes
-- that starts so, and stops with `Complete` or with a refusal

pub record Answers (g : Files) (first : Machine) (start : World) (buf out : List ℕ) : Type 0 where
  pub list : Lists asks_of Stepped first start buf out
  pub completes : Completes g list.word list.end

pub check-answers : ((m : Machine) (e : Event) (buf out : List ℕ) → MachineHeld m → EventHeld e → SliceHeld buf → SliceHeld out → Answered Stepped MachineHeld m e buf out)
    → (first : Machine) (g : Files) (start : World) (buf out : List ℕ) → Opened first → MachineHeld first → WorldHeld start → SliceHeld buf → SliceHeld out → Rightly g start buf out
    → Answers g first start buf out
check-answers answers first g start buf out o held world slice lent s =
    let l = check-exists answers first g start buf out o held s.starts world slice lent in
    record { list = l; completes = check-completes l.count first l.last g start l.end buf out l.word o s l.well l.stops }
