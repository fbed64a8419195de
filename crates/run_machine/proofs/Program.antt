-- THE THEOREM of the program `run`, of the functions themselves: for every list of events that the loop can report, whatever the files are,
-- in whatever chunks they come and wherever an open, a read, a rewind or a write fails.
-- All that is known of a step is what the function's own contract ensures. Assumes of the loop what `exchange/specs/World.antt` says.
use Prim.Native.Nat.{ℕ, ◌+◌, ◌*◌, ◌≤◌}
use mathlib.Core.Path.{◌≡◌, refl, sym, ap, ◌∙◌, subst}
use mathlib.Core.Bool.{true}
use mathlib.Core.List.{List}
use native.Mathlib.Omega.{arith}
use lib.ListN.{length}
use borrow.Fn.Kinds as kinds
use contract.Lifetimes.{Lfts}
use denote.Triple.Clauses as clauses
use Rattle.rules.specs.declared.answers.Refusal.{Refusal}
use Rattle.rows.specs.AnswerLine.{refused_line}
use Rattle.exchange.specs.declared.action.Action.{Action}
use Rattle.exchange.specs.declared.action.Word.{Word}
use Rattle.exchange.specs.declared.event.Event.{Event}
use Rattle.exchange.specs.World.{World}
use Rattle.exchange.specs.Events.{Events, Begins}
use Rattle.exchange.proofs.EventLaws.{events-keep}
use Rattle.exchange.proofs.Words.{word_of, is_answer, no_stop}
use Rattle.judging.proofs.AskLaws.{reading-asks}
use Rattle.judging.specs.declared.state.JudgeStage.{JudgeStage}
use Rattle.judging.specs.Stages.{judge_asks}
use Rattle.run_stages.specs.declared.state.Stage.{Stage}
use Rattle.run_stages.specs.declared.state.Held.{Held}
use Rattle.run_stages.specs.Stages.{Machine, asks, asks_of}
use Rattle.run_stages.specs.Given.{Given, text, Called, Agreed, Sets}
use Rattle.run_stages.specs.Holds.{Stopped, HoldsAt, Holds, steps_left, seconds_of}
use Rattle.run_machine.specs.Steps.{Steps, Starting, Opens}
use Rattle.run_stages.proofs.StopLaws.{so_far}
use Rattle.run_machine.proofs.next.begin.Reads as begin-reads
use Rattle.run_machine.proofs.next.begin.Kinds as begin-kinds
use Rattle.run_machine.proofs.next.next.Reads as next-reads
use Rattle.run_machine.proofs.next.next.Kinds as next-kinds
use Rattle.run_stages.proofs.state.asked.Reads as asked-reads
use Rattle.run_stages.proofs.state.asked.Kinds as asked-kinds

-- ---- calls of which only what their contracts ensure is known

-- `begin` gave m
pub record Opened (m : Machine) : Type 0 where
  pub κs : Lfts 0
  pub args : kinds.Dens κs begin-kinds.ps
  pub exit : clauses.AtExit (kinds.ended_of 0 begin-kinds.ps begin-kinds.r) κs
  pub returned : begin-reads.Post κs args m exit

-- `asked` was handed m, and gave the action
pub record Asked (m : Machine) (a : Action) : Type 0 where
  pub κs : Lfts 0
  pub args : kinds.Dens κs asked-kinds.ps
  pub exit : clauses.AtExit (kinds.ended_of 0 asked-kinds.ps asked-kinds.r) κs
  pub passed : args.0 ≡ m
  pub returned : asked-reads.Post κs args a exit

-- `next` was handed m, an event, the buffer and the lent output buffer, and gave r and the output buffer as it is left
pub record Stepped (m : Machine) (e : Event) (buf out : List ℕ) (r : Machine) (left : List ℕ) : Type 0 where
  pub κs : Lfts 2
  pub args : kinds.Dens κs next-kinds.ps
  pub exit : clauses.AtExit (kinds.ended_of 2 next-kinds.ps next-kinds.r) κs
  pub passed : (args.0 ≡ m) × (args.1.0 ≡ e) × (args.1.1.0.now ≡ buf) × (args.1.1.1.0.now ≡ out)
  pub returned : next-reads.Post κs args r exit
  pub seen : exit.1.1.1.0.now ≡ left

pub open-owes : {m : Machine} → Opened m → Opens m
open-owes {m} o = o.returned

asked-owes : {m : Machine} {a : Action} → Asked m a → a ≡ asks_of m
asked-owes {m} {a} s =
    let k : a ≡ asks_of s.args.0 = s.returned in
    k ∙ ap asks_of s.passed

pub step-owes : {m r : Machine} {e : Event} {buf out left : List ℕ} → Stepped m e buf out r left → Steps m e buf out r left
step-owes {m} {r} {e} {buf} {out} {left} s =
    let k : Steps s.args.0 s.args.1.0 s.args.1.1.0.now s.args.1.1.1.0.now r s.exit.1.1.1.0.now = s.returned in
    rw (s.passed.0, s.passed.1, s.passed.2, s.passed.3, s.seen) at k

-- ---- the word that a stage stops with

pub at-stop : (stage : Stage) (word : Word) (g : Given) (h : Held) (w : World) (buf out : List ℕ) → is_answer word ≡ true → asks stage h.judging.stage ≡ Action.Stop word → HoldsAt stage g h w buf out → Stopped word g w
at-stop Stage.Counting word g h w buf out some is k = no_stop (asks Stage.Counting JudgeStage.Judged) word refl some is
at-stop Stage.Telling word g h w buf out some is k = no_stop (asks Stage.Telling JudgeStage.Judged) word refl some is
at-stop Stage.Judging word g h w buf out some is k = no_stop (judge_asks h.judging.stage) word (reading-asks h.judging.stage) some is
at-stop Stage.AskSeconds word g h w buf out some is k = no_stop (asks Stage.AskSeconds JudgeStage.Judged) word refl some is
at-stop Stage.ToSecondPass word g h w buf out some is k = no_stop (asks Stage.ToSecondPass JudgeStage.Judged) word refl some is
at-stop Stage.SecondPass word g h w buf out some is k = no_stop (asks Stage.SecondPass JudgeStage.Judged) word refl some is
at-stop (Stage.Write size wants) word g h w buf out some is k = no_stop (Action.Write size) word refl some is
at-stop (Stage.Answer size refusal) word g h w buf out some is k = no_stop (Action.Write size) word refl some is
at-stop (Stage.Stop this) word g h w buf out some is k = subst (λ (x : Word). Stopped x g w) (ap (word_of word) is) k

-- ---- THE THEOREM

-- what is said of the program after so many events
pub record Prints (g : Given) (n : ℕ) (last : Machine) (end : World) : Type 0 where
  -- what was written, in order, begins what document 01 prints, where both passes read the same bytes
  pub begins : g.again ≡ g.samples → Begins (text g) end.written
  -- and is all of it where the program asks to stop with `Complete`; that comes only after both passes' tallies agreed, and of a program
  -- that was called with three arguments, or with four
  pub complete : Asked last (Action.Stop Word.Complete) → (g.again ≡ g.samples → end.written ≡ text g) × Agreed g × Called end.count
  -- or with a refusal, whatever a second pass would have read: the line of that one
  pub refused : (r : Refusal) → Asked last (Action.Stop (Word.Refused r)) → (end.written ≡ text g) × (text g ≡ refused_line r) × Called end.count
  -- whatever both passes read: nothing was written, or how a refusal's line begins, or every set's line is still to come, or the tallies agreed
  pub sets : Sets g end.written
  -- the stop comes in so few steps: each brings a byte, a second or the end nearer, but for 27
  pub few : n ≤ length g.station + length g.samples + 3 * length g.again + seconds_of g.asked + 27

pub run-prints : (n : ℕ) (first last : Machine) (g : Given) (start end : World) (buf out : List ℕ) → Opened first → Starting g start → Events asks_of Stepped n first start buf out last end → Prints g n last end
unfolding Steps Opens
run-prints n first last g start end buf out o s events =
    let opened = open-owes o g start buf out s in
    let k =
    events-keep asks_of Stepped (λ m w buf out. Holds g m w buf out) (λ m w. steps_left g m w) (λ m e w before buf out some r out' k fits one. (((step-owes one).1 g w before some k fits).0, ((step-owes one).1 g w before some k fits).1)) events opened.0 in
    let far = so_far last.stage g last.held end k.buf k.out k.holds in
    let few = k.few in
    let most = opened.1 in
    record {
      begins = far.0;
      sets = far.1;
      complete = λ a. at-stop last.stage Word.Complete g last.held end k.buf k.out refl (sym (asked-owes a)) k.holds;
      refused = λ r a. at-stop last.stage (Word.Refused r) g last.held end k.buf k.out refl (sym (asked-owes a)) k.holds;
      few = omega (arith, few, most);
    }
