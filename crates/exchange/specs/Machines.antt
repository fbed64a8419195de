-- A MACHINE BETWEEN TWO ACTIONS, of any stages and whatever it holds: what comes where the last action was done, and where it was not.
use Rattle.exchange.specs.declared.action.Why.{Why}
use Rattle.exchange.specs.declared.event.Event.{Event}
use Rattle.exchange.specs.declared.machine.Machine.{Machine}

abbrev pub standing : {S H : Type 0} → S → H → Machine S H
standing s h = record { stage = s; held = h }

-- what was asked for was done, or failed; an event that is no answer to it stops the machine
abbrev pub moved_by : {S H : Type 0} → (Why → S) → Event → H → S → S → Machine S H
moved_by stop Event.Done h done failed = standing done h
moved_by stop (Event.Count n) h done failed = standing (stop Why.Broken) h
moved_by stop (Event.Read n) h done failed = standing (stop Why.Broken) h
moved_by stop Event.End h done failed = standing (stop Why.Broken) h
moved_by stop Event.Failed h done failed = standing failed h
