-- `set_moves::commands::command` meets its contract, mode by mode. Assumes nothing.
use Rattle.std.proofs.Common.{◌≡◌, ◌<◌, Bool, sym, ap, ◌∙◌, rules}
use Rattle.rules.specs.declared.station.GenSet.{GenSet}
use Rattle.rules.specs.declared.run.Mode.{Mode}
use Rattle.rules.specs.declared.run.SetState.{SetState}
use Rattle.rules.specs.Commands.{command_from, command}
use Rattle.set_moves.specs.InType.{switched_in}
use Rattle.set_moves.proofs.Fits.{switched-small}
use Rattle.set_moves.proofs.commands.command.Goals as goal
use Rattle.set_moves.proofs.commands.command.Goals.{Start}

-- by the mode that the set has
by_mode : (g : GenSet) (s : SetState) (called release : Bool) (m : Mode) (r : SetState) → s.mode ≡ m → r ≡ switched_in (command_from g s called release m) → r ≡ switched_in (command g s called release)
unfolding command
by_mode g s called release m r e h = h ∙ sym (ap (λ (k : Mode). switched_in (command_from g s called release k)) e)

-- a set that is left as it is
own : (c : Start) → c.args.state ≡ switched_in c.args.state
own c =
    let starts : c.args.state.starts < 4_294_967_296 = search rules in
    let stops : c.args.state.stops < 4_294_967_296 = search rules in
    sym (switched-small c.args.state starts stops)

pub returns-then-called : goal.returns-then-called
unfolding command_from
returns-then-called c = by_mode _ _ _ _ _ _ c.in-Off.is (rw c.if-called.true c.start_set.ensures)

pub returns-else-called : goal.returns-else-called
unfolding command_from
returns-else-called c = by_mode _ _ _ _ _ _ c.in-Off.is (rw c.if-called.false (own (goal.at.returns-else-called c).Start))

pub returns-then-called-2 : goal.returns-then-called-2
unfolding command_from
returns-then-called-2 c = by_mode _ _ _ _ _ _ c.in-Warming.is (rw c.if-called-2.true (own (goal.at.returns-then-called-2 c).Start))

pub returns-else-called-2 : goal.returns-else-called-2
unfolding command_from
returns-else-called-2 c = by_mode _ _ _ _ _ _ c.in-Warming.is (rw c.if-called-2.false c.stop_set.ensures)

pub returns-then-called-3 : goal.returns-then-called-3
unfolding command_from
returns-then-called-3 c = by_mode _ _ _ _ _ _ c.in-On.is (rw c.if-called-3.true (own (goal.at.returns-then-called-3 c).Start))

pub returns-then-release : goal.returns-then-release
unfolding command_from
returns-then-release c = by_mode _ _ _ _ _ _ c.in-On.is (rw (c.if-called-3.false, c.if-release.true) c.stop_set-then-release.ensures)

pub returns-else-release : goal.returns-else-release
unfolding command_from
returns-else-release c = by_mode _ _ _ _ _ _ c.in-On.is (rw (c.if-called-3.false, c.if-release.false) (own (goal.at.returns-else-release c).Start))

pub returns-in-Cooling : goal.returns-in-Cooling
unfolding command_from
returns-in-Cooling c = by_mode _ _ _ _ _ _ c.in-Cooling.is (own (goal.at.returns-in-Cooling c).Start)

pub returns-in-Service : goal.returns-in-Service
unfolding command_from
returns-in-Service c = by_mode _ _ _ _ _ _ c.in-Service.is (own (goal.at.returns-in-Service c).Start)
