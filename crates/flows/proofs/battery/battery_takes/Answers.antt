-- `battery::battery_takes` meets its contract. Assumes nothing.
use borrow.Author.Rules.{rules}
use Rattle.rules.specs.Flows.{battery_takes}
use Rattle.flows.proofs.Room.{takes-nothing}
use Rattle.flows.proofs.battery.battery_takes.Goals as goal

pub returns-then-battery-eq0 : goal.returns-then-battery-eq0
returns-then-battery-eq0 c =
    let a = c.args in
    takes-nothing a.battery a.store a.surplus (search rules)

pub returns : goal.returns
unfolding battery_takes
returns c = simp (c.min.ensures, c.at_most.ensures, c.saturating_sub.ensures)
