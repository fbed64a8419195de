-- What each stage asks for, and what changes from one to the next.
use Rattle.std.specs.Prelude.{Bool, true, false}
use Rattle.exchange.specs.declared.action.Action.{Action}
use Rattle.exchange.specs.declared.action.Why.{Why}
use Rattle.exchange.specs.declared.action.Word.{Word}
use Rattle.exchange.specs.declared.event.Event.{Event}
use Rattle.exchange.specs.World.{buffer_end}
use Rattle.judging.specs.declared.state.JudgeStage.{JudgeStage}
use Rattle.judging.specs.declared.state.Held.{Held}
use Rattle.exchange.specs.declared.machine.Machine.{Machine}
use Rattle.exchange.specs.Machines.{standing}
use Rattle.exchange.specs.Machines as machines

abbrev pub Judging : Type 0
Judging = Machine JudgeStage Held

abbrev pub judge_asks : JudgeStage → Action
judge_asks JudgeStage.OpenStation = Action.Open 1
judge_asks JudgeStage.ReadStation = Action.Read 1 0 buffer_end
judge_asks JudgeStage.OpenSamples = Action.Open 2
judge_asks JudgeStage.ToStart = Action.Rewind 2
judge_asks JudgeStage.ReadSamples = Action.Read 2 0 buffer_end
judge_asks JudgeStage.Judged = Action.Stop (Word.Nothing Why.Broken)
judge_asks (JudgeStage.Stopped why) = Action.Stop (Word.Nothing why)

-- a file could not be read
abbrev pub is_stopped : JudgeStage → Bool
is_stopped JudgeStage.OpenStation = false
is_stopped JudgeStage.ReadStation = false
is_stopped JudgeStage.OpenSamples = false
is_stopped JudgeStage.ToStart = false
is_stopped JudgeStage.ReadSamples = false
is_stopped JudgeStage.Judged = false
is_stopped (JudgeStage.Stopped why) = true

abbrev pub stopping : Held → Why → Judging
stopping h why = standing (JudgeStage.Stopped why) h

-- what was asked for was done, or not
abbrev pub moved_by : Event → Held → JudgeStage → Why → Judging
moved_by e h next why = machines.moved_by JudgeStage.Stopped e h next (JudgeStage.Stopped why)

-- the sample file is open: a program that reads it twice goes back to its start first
abbrev pub opened_by : Bool → Event → Held → Judging
opened_by true e h = moved_by e h JudgeStage.ToStart (Why.Unopened 2)
opened_by false e h = moved_by e h JudgeStage.ReadSamples (Why.Unopened 2)
