-- `steady::next_event::unmoved_all` meets its contract. Assumes nothing.
use Prim.Native.Nat.{ℕ}
use mathlib.Core.Path.{◌≡◌}
use mathlib.Core.Bool.{Bool}
use mathlib.Core.List.{List}
use Rattle.rules.specs.declared.run.SetState.{SetState}
use Rattle.rules.specs.Numbers.{has, all_to}
use Rattle.rules.specs.Modes.{state_at}
use Rattle.rules.specs.Commands.{every_on}
use Rattle.steady.specs.NextEvent.{unmoved}
use Rattle.steady.proofs.next_event.unmoved_all.Given as goal

-- the command leaves the set at a place as it is
abbrev pub left : List SetState → ℕ → ℕ → Bool
left states mask i = unmoved (state_at states i).mode (has mask i) (every_on states mask)

abbrev pub invariant-loop-i : goal.invariant-loop-i
invariant-loop-i l = (l.release ≡ every_on l.states l.mask) × (l.ok ≡ all_to l.i (left l.states l.mask))
