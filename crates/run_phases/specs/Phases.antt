-- The phase that a run comes to after a line or after some seconds, what it wants then, and the room that a turn of seconds asks for.
use Rattle.std.specs.Prelude.{ℕ, suc, min, eqb, if◌then◌else◌}
use Rattle.course.specs.declared.state.Halt.{Halt}
use Rattle.run_phases.specs.declared.state.Phase.{Phase}
use Rattle.run_phases.specs.declared.state.Wants.{Wants}

-- the phase after the line that a phase begins with
abbrev pub phase_after : Phase → Phase
phase_after (Phase.Refusal refusal) = Phase.Over
phase_after Phase.Heading = Phase.Seconds
phase_after Phase.Seconds = Phase.Seconds
phase_after Phase.SetHeading = Phase.SetLine 0
phase_after (Phase.SetLine place) = Phase.SetLine (min (suc place) 8)
phase_after Phase.Over = Phase.Over
phase_after Phase.Broken = Phase.Broken

-- a run in the phase of its seconds goes on where its course does, comes to the sets once no second is left, and breaks off with it
abbrev pub phase_for : Halt → Phase
phase_for Halt.Further = Phase.Seconds
phase_for Halt.Input = Phase.Seconds
phase_for Halt.Room = Phase.Seconds
phase_for Halt.AllWorked = Phase.SetHeading
phase_for Halt.Broken = Phase.Broken

abbrev pub wants_for : Halt → Wants
wants_for Halt.Further = Wants.Further
wants_for Halt.Input = Wants.Input
wants_for Halt.Room = Wants.Room
wants_for Halt.AllWorked = Wants.Further
wants_for Halt.Broken = Wants.Further

-- an empty buffer has room for a row from 256 bytes on; one that has rows is handed over once it is nearly full
abbrev pub least_room : ℕ → ℕ
least_room written = if eqb written 0 then 256 else 8192
