-- THE THEOREM of the program `check`, of the functions themselves: for every list of events that the loop can report, whatever the files are,
-- in whatever chunks they come and wherever an open, a read, a rewind or a write fails.
-- All that is known of a step is what the function's own contract ensures. Assumes of the loop what `exchange/specs/World.antt` says.
use Prim.Native.Nat.{ℕ, ◌+◌, ◌≤◌}
use mathlib.Core.Path.{◌≡◌, refl, sym, ap, ◌∙◌, subst}
use mathlib.Core.Bool.{true}
use mathlib.Core.List.{List}
use native.Mathlib.Omega.{arith}
use lib.ListN.{length}
use borrow.Fn.Kinds as kinds
use contract.Lifetimes.{Lfts}
use denote.Triple.Clauses as clauses
use Rattle.rules.specs.declared.answers.Refusal.{Refusal}
use Rattle.rows.specs.AnswerLine.{accepted_line, refused_line}
use Rattle.exchange.specs.declared.action.Action.{Action}
use Rattle.exchange.specs.declared.action.Word.{Word}
use Rattle.exchange.specs.declared.event.Event.{Event}
use Rattle.exchange.specs.World.{World, left_in, left_of}
use Rattle.exchange.specs.Existing.{gives_up}
use Rattle.exchange.specs.Events.{Events, Begins}
use Rattle.exchange.proofs.EventLaws.{events-keep}
use Rattle.exchange.proofs.Words.{word_of, is_answer, no_stop}
use Rattle.judging.proofs.AskLaws.{reading-asks}
use Rattle.judging.specs.declared.state.JudgeStage.{JudgeStage}
use Rattle.judging.specs.Stages.{judge_asks}
use Rattle.judging.specs.Holds.{Files, JudgeHoldsAt, judge_steps_at}
use Rattle.check_machine.specs.declared.state.Stage.{Stage}
use Rattle.check_machine.specs.declared.state.Held.{Held}
use Rattle.check_machine.specs.Stages.{Machine}
use Rattle.check_machine.specs.Answer.{answered}
use Rattle.check_machine.specs.Stages.{asks, asks_of}
use Rattle.check_machine.specs.Holds.{WordMeans, HoldsAt, Holds, steps_at, steps, StepsFrom, Steps, Starting, Opens}
use Rattle.check_machine.proofs.StopLaws.{so_far}
use Rattle.check_machine.proofs.next.begin.Reads as begin-reads
use Rattle.check_machine.proofs.next.begin.Kinds as begin-kinds
use Rattle.check_machine.proofs.next.next.Reads as next-reads
use Rattle.check_machine.proofs.next.next.Kinds as next-kinds
use Rattle.check_machine.proofs.state.asked.Reads as asked-reads
use Rattle.check_machine.proofs.state.asked.Kinds as asked-kinds

-- ---- calls of which only what their contracts ensure is known

-- `begin` gave m
pub record Opened (m : Machine) : Type 0 where
  pub κs : Lfts 0
  pub args : kinds.Dens κs begin-kinds.ps
  pub exit : clauses.AtExit (kinds.ended_of 0 begin-kinds.ps begin-kinds.r) κs
  pub returned : begin-reads.Post κs args m exit

-- `asked` was handed m, and gave the action
pub record Asked (m : Machine) (a : Action) : Type 0 where
  pub κs : Lfts 0
  pub args : kinds.Dens κs asked-kinds.ps
  pub exit : clauses.AtExit (kinds.ended_of 0 asked-kinds.ps asked-kinds.r) κs
  pub passed : args.0 ≡ m
  pub returned : asked-reads.Post κs args a exit

-- `next` was handed m, an event, the buffer and the lent output buffer, and gave r and the output buffer as it is left
pub record Stepped (m : Machine) (e : Event) (buf out : List ℕ) (r : Machine) (left : List ℕ) : Type 0 where
  pub κs : Lfts 2
  pub args : kinds.Dens κs next-kinds.ps
  pub exit : clauses.AtExit (kinds.ended_of 2 next-kinds.ps next-kinds.r) κs
  pub passed : (args.0 ≡ m) × (args.1.0 ≡ e) × (args.1.1.0.now ≡ buf) × (args.1.1.1.0.now ≡ out)
  pub returned : next-reads.Post κs args r exit
  pub seen : exit.1.1.1.0.now ≡ left

pub open-owes : {m : Machine} → Opened m → Opens m
open-owes {m} o = o.returned

asked-owes : {m : Machine} {a : Action} → Asked m a → a ≡ asks_of m
asked-owes {m} {a} s =
    let k : a ≡ asks_of s.args.0 = s.returned in
    k ∙ ap asks_of s.passed

pub step-owes : {m r : Machine} {e : Event} {buf out left : List ℕ} → Stepped m e buf out r left → Steps m e buf out r left
step-owes {m} {r} {e} {buf} {out} {left} s =
    let k : Steps s.args.0 s.args.1.0 s.args.1.1.0.now s.args.1.1.1.0.now r s.exit.1.1.1.0.now = s.returned in
    rw (s.passed.0, s.passed.1, s.passed.2, s.passed.3, s.seen) at k

-- ---- the start

pub opens-holds : (g : Files) (m : Machine) (w : World) (out : List ℕ) → Opens m → Starting g w → Holds g m w out
opens-holds g m w out o s =
    let judges : JudgeHoldsAt m.held.judging.stage g m.held.judging.held w = subst (λ (j : JudgeStage). JudgeHoldsAt j g m.held.judging.held w) (sym o.reading-is.stage_is) (o.reading-is.holds g w s.unread) in
    subst (λ (stage : Stage). HoldsAt stage g m.held w out) (sym o.stage_is) (record { ready = ap (λ (j : JudgeStage). gives_up (judge_asks j)) o.reading-is.stage_is; judges = judges; unwritten = s.unwritten })

opens-steps : (g : Files) (m : Machine) (w : World) → Opens m → Starting g w → steps g m w ≡ length g.station + length g.samples + length (left_in g.later) + 9
opens-steps g m w o s =
    let n : ℕ = length (left_in g.later) in
    let stage : steps g m w ≡ judge_steps_at m.held.judging.stage g w + n + 4 = ap (λ (x : Stage). steps_at x g m.held w) o.stage_is in
    let reading : judge_steps_at m.held.judging.stage g w ≡ length (left_of w 1) + length g.samples + 5 = ap (λ (x : JudgeStage). judge_steps_at x g w) o.reading-is.stage_is in
    let station : length (left_of w 1) ≡ length g.station = ap length s.unread.station in
    omega (arith, stage, reading, station)

-- ---- the word that a stage stops with

pub at-stop : (stage : Stage) (word : Word) (g : Files) (h : Held) (w : World) (out : List ℕ) → is_answer word ≡ true → asks stage h.judging.stage ≡ Action.Stop word → HoldsAt stage g h w out → WordMeans word g w.count w.written
at-stop Stage.Counting word g h w out some is k = no_stop Action.Count word refl some is
at-stop Stage.Judging word g h w out some is k = no_stop (judge_asks h.judging.stage) word (reading-asks h.judging.stage) some is
at-stop (Stage.Answer size word') word g h w out some is k = no_stop (Action.Write size) word refl some is
at-stop (Stage.LineAnswer size r) word g h w out some is k = no_stop (Action.Write size) word refl some is
at-stop (Stage.ToLines r) word g h w out some is k = no_stop (Action.Rewind 2) word refl some is
at-stop (Stage.Lines r) word g h w out some is k = no_stop (asks (Stage.Lines r) JudgeStage.Judged) word refl some is
at-stop (Stage.Stop this) word g h w out some is k = subst (λ (x : Word). WordMeans x g w.count w.written) (ap (word_of word) is) k

-- ---- THE THEOREM

-- what is said of the program after so many events
pub record Prints (g : Files) (n : ℕ) (last : Machine) (end : World) : Type 0 where
  -- what was written, in order, begins what document 01 has the program print of both files
  pub begins : Begins (answered g.station g.samples) end.written
  -- and is all of it where the program asks to stop with `Complete`: that both files are in order; and it was called with two arguments
  pub complete : Asked last (Action.Stop Word.Complete) → (end.written ≡ answered g.station g.samples) × (answered g.station g.samples ≡ accepted_line) × (end.count ≡ 3)
  -- or with a refusal: the line of that one
  pub refused : (r : Refusal) → Asked last (Action.Stop (Word.Refused r)) → (end.written ≡ answered g.station g.samples) × (answered g.station g.samples ≡ refused_line r) × (end.count ≡ 3)
  -- the stop comes in so few steps: no step is without a byte that was read, but for nine
  pub few : n ≤ length g.station + length g.samples + length (left_in g.later) + 9

pub check-prints : (n : ℕ) (first last : Machine) (g : Files) (start end : World) (buf out : List ℕ) → Opened first → Starting g start → Events asks_of Stepped n first start buf out last end → Prints g n last end
unfolding Steps StepsFrom
check-prints n first last g start end buf out o s events =
    let k =
    events-keep asks_of Stepped (λ m w buf out. Holds g m w out) (λ m w. steps g m w) (λ m e w before buf out some r out' k fits one. (((step-owes one).1 g w before some k fits).0, ((step-owes one).1 g w before some k fits).1)) events
    (opens-holds g first start out (open-owes o) s) in
    let few = k.few in
    let most = opens-steps g first start (open-owes o) s in
    record {
      begins = so_far last.stage g last.held end k.out k.holds;
      complete = λ a. at-stop last.stage Word.Complete g last.held end k.out refl (sym (asked-owes a)) k.holds;
      refused = λ r a. at-stop last.stage (Word.Refused r) g last.held end k.out refl (sym (asked-owes a)) k.holds;
      few = omega (arith, few, most);
    }
