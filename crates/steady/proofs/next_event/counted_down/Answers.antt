-- `steady::next_event::counted_down` meets its contract, mode by mode. Assumes nothing.
use Rattle.steady.specs.NextEvent.{counted_down}
use Rattle.steady.proofs.next_event.counted_down.Goals as goal

pub returns-in-Off : goal.returns-in-Off
unfolding counted_down
returns-in-Off c = simp c.in-Off.is

pub returns-in-Warming : goal.returns-in-Warming
unfolding counted_down
returns-in-Warming c = simp (c.saturating_sub.ensures, c.in-Warming.is)

pub returns-in-On : goal.returns-in-On
unfolding counted_down
returns-in-On c = simp c.in-On.is

pub returns-in-Cooling : goal.returns-in-Cooling
unfolding counted_down
returns-in-Cooling c = simp (c.saturating_sub-in-Cooling.ensures, c.in-Cooling.is)

pub returns-in-Service : goal.returns-in-Service
unfolding counted_down
returns-in-Service c = simp (c.saturating_sub-in-Service.ensures, c.in-Service.is)
