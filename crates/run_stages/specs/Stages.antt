-- What each stage asks for, and what changes where something was done or failed.
use Rattle.std.specs.Prelude.{true}
use Rattle.run_phases.specs.declared.state.Simulation.{Simulation}
use Rattle.exchange.specs.declared.action.Action.{Action}
use Rattle.exchange.specs.declared.action.Why.{Why}
use Rattle.exchange.specs.declared.action.Word.{Word}
use Rattle.exchange.specs.declared.event.Event.{Event}
use Rattle.exchange.specs.declared.machine.Machine as machine
use Rattle.exchange.specs.Machines as machines
use Rattle.exchange.specs.Machines.{standing}
use Rattle.exchange.specs.World.{buffer_end}
use Rattle.judging.specs.declared.state.JudgeStage.{JudgeStage}
use Rattle.judging.specs.Stages.{judge_asks}
use Rattle.run_stages.specs.declared.state.Stage.{Stage}
use Rattle.run_stages.specs.declared.state.Held.{Held}

abbrev pub Machine : Type 0
Machine = machine.Machine Stage Held

abbrev pub asks : Stage → JudgeStage → Action
asks Stage.Counting judging = Action.Count
asks Stage.Telling judging = Action.Argument 4
asks Stage.Judging judging = judge_asks judging
asks Stage.AskSeconds judging = Action.Argument 3
asks Stage.ToSecondPass judging = Action.Rewind 2
asks Stage.SecondPass judging = Action.Read 2 0 buffer_end
asks (Stage.Write size wants) judging = Action.Write size
asks (Stage.Answer size refusal) judging = Action.Write size
asks (Stage.Stop word) judging = Action.Stop word

abbrev pub asks_of : Machine → Action
asks_of m = asks m.stage m.held.judging.stage

-- without a complete answer
abbrev pub stopping : Held → Why → Machine
stopping h why = standing (Stage.Stop (Word.Nothing why)) h

-- with the run that begins
abbrev pub with_run : Held → Simulation → Held
with_run h s = record { judging = h.judging; second = h.second; simulation = s; chunk = h.chunk; at = h.at; ended = h.ended; told = h.told; working = true }

abbrev pub works_from : Held → Simulation → Machine
works_from h s = record { stage = Stage.ToSecondPass; held = with_run h s }

-- what was asked for was done, or failed
abbrev pub moved_by : Event → Held → Stage → Why → Machine
moved_by e h next why = machines.moved_by (λ why. Stage.Stop (Word.Nothing why)) e h next (Stage.Stop (Word.Nothing why))
