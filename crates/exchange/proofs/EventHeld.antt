-- What the type of an event can hold: that its number is one of 64 bits says the same. Assumes nothing.
use mathlib.Core.Path.{refl}
use mathlib.Core.List.{List, [], ◌∷◌}
use mir.Val.{Val}
use denote.Laws.{Is}
use denote.Enum.Declared.{row}
use denote.Enum.Laws.{val, owes, owed}
use Rattle.exchange.specs.declared.event.Event.{Event}
use Rattle.exchange.specs.Existing.{EventHeld}
use Rattle.exchange.specs.contracts.event.Event.{the_type}
use Rattle.exchange.proofs.event.Event.TheLaws.{the_laws}

pub event-of-held : (e : Event) → EventHeld e → Is (row the_type) e (val the_type the_laws e ∷ [])
event-of-held Event.Done h = owes the_type the_laws Event.Done tt
event-of-held (Event.Count n) h = owes the_type the_laws (Event.Count n) ((refl, h), tt)
event-of-held (Event.Read n) h = owes the_type the_laws (Event.Read n) ((refl, h), tt)
event-of-held Event.End h = owes the_type the_laws Event.End tt
event-of-held Event.Failed h = owes the_type the_laws Event.Failed tt

pub held-of-event : (e : Event) (vs : List Val) → Is (row the_type) e vs → EventHeld e
held-of-event Event.Done vs h = tt
held-of-event (Event.Count n) vs h = (owed the_type the_laws (Event.Count n) vs h).0.1
held-of-event (Event.Read n) vs h = (owed the_type the_laws (Event.Read n) vs h).0.1
held-of-event Event.End vs h = tt
held-of-event Event.Failed vs h = tt
