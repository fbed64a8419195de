-- What each stage asks for, and what changes from one to the next.
use Rattle.exchange.specs.declared.action.Action.{Action}
use Rattle.exchange.specs.declared.action.Why.{Why}
use Rattle.exchange.specs.declared.action.Word.{Word}
use Rattle.exchange.specs.declared.event.Event.{Event}
use Rattle.exchange.specs.World.{buffer_end}
use Rattle.judging.specs.declared.state.JudgeStage.{JudgeStage}
use Rattle.judging.specs.Stages.{judge_asks}
use Rattle.check_machine.specs.declared.state.Stage.{Stage}
use Rattle.check_machine.specs.declared.state.Held.{Held}
use Rattle.exchange.specs.declared.machine.Machine as machine
use Rattle.exchange.specs.Machines.{standing}
use Rattle.exchange.specs.Machines as machines

abbrev pub Machine : Type 0
Machine = machine.Machine Stage Held

-- while both files are read, what that reading asks for
abbrev pub asks : Stage → JudgeStage → Action
asks Stage.Counting reading = Action.Count
asks Stage.Judging reading = judge_asks reading
asks (Stage.Answer size word) reading = Action.Write size
asks (Stage.LineAnswer size r) reading = Action.Write size
asks (Stage.ToLines r) reading = Action.Rewind 2
asks (Stage.Lines r) reading = Action.Read 2 0 buffer_end
asks (Stage.Stop word) reading = Action.Stop word

-- what a machine asks for
abbrev pub asks_of : Machine → Action
asks_of m = asks m.stage m.held.judging.stage

-- without a complete answer
abbrev pub stopping : Held → Why → Machine
stopping h why = standing (Stage.Stop (Word.Nothing why)) h

-- what was asked for was done, or failed
abbrev pub moved_by : Event → Held → Stage → Stage → Machine
moved_by e h done failed = machines.moved_by (λ why. Stage.Stop (Word.Nothing why)) e h done failed
