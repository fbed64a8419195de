-- `records::states::mode_possible` meets its contract. Assumes nothing.

use Rattle.records.proofs.states.mode_possible.Goals as goal

pub returns-in-Warming : goal.returns-in-Warming
returns-in-Warming c = simp c.in-Warming.is

pub returns-in-Cooling : goal.returns-in-Cooling
returns-in-Cooling c = simp c.in-Cooling.is

pub returns-in-Service : goal.returns-in-Service
returns-in-Service c = simp c.in-Service.is
