-- `steady::steady_seconds::steady_for` meets its contract. Assumes nothing.
use mathlib.Core.Path.{sym, ◌∙◌}
use native.Mathlib.Omega.{arith}
use Rattle.steady.proofs.EventLaws.{none-at-once}
use Rattle.steady.proofs.steady_seconds.steady_for.Goals as goal

pub returns-then-not-unmoved_all : goal.returns-then-not-unmoved_all
returns-then-not-unmoved_all c = record { no-event = none-at-once _ _; unmoved = λ l. absurd (omega arith) }

pub returns : goal.returns
returns c = record { no-event = c.until_event.ensures; unmoved = λ l. sym c.unmoved_all.ensures ∙ c.if-not-unmoved_all.false }
