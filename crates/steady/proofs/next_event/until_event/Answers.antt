-- `steady::next_event::until_event` meets its contract. Assumes nothing.
use Prim.Native.Nat.{ℕ, ◌+◌, ◌≤◌, ◌<◌}
use mathlib.Core.Path.{◌≡◌}
use mathlib.Core.List.{List}
use native.Mathlib.Omega.{arith}
use native.Mathlib.Decide.{dec_lt}
use Rattle.rules.specs.declared.station.GenSet.{GenSet}
use Rattle.rules.specs.declared.run.SetState.{SetState}
use Rattle.rules.specs.StationRecord.{past_end, set_at}
use Rattle.rules.specs.Modes.{state_at}
use Rattle.steady.specs.NextEvent.{NoOwnEvent}
use Rattle.steady.proofs.EventLaws.{fewer-lasts}
use Rattle.steady.proofs.next_event.until_event.Invariants.{LastingTo}
use Rattle.steady.proofs.next_event.until_event.Goals as goal

-- and of the set at it, with the lesser of the two
one_more : (i : ℕ) (sets : List GenSet) (states : List SetState) (least less : ℕ) → LastingTo i sets states least → less ≤ least
    → NoOwnEvent (set_at sets i) (state_at states i) less → LastingTo (i + 1) sets states less
one_more i sets states least less h k own = record { each = λ j b. go j b (dec_lt j i) }
  where
    go : (j : ℕ) → j < i + 1 → Dec (j < i) → NoOwnEvent (set_at sets j) (state_at states j) less
    go j b (yes p) = fewer-lasts (set_at sets j) (state_at states j) least less (h.each j p) k
    go j b (no p) = let e : i ≡ j = omega (arith, p) in rw e at own

pub loop-i-init : goal.loop-i-init
loop-i-init c = record { each = λ j l. absurd (omega (arith, l)) }

pub loop-i-preserved : goal.loop-i-preserved
unfolding set_at state_at past_end
loop-i-preserved c =
    one_more _ _ _ _ _ c.loop-i.invariant (omega (arith, c.min-least.ensures)) (fewer-lasts _ _ _ _ c.until_own_event.ensures (omega (arith, c.min-least.ensures)))

pub returns : goal.returns
returns c = record { each = λ j l. c.loop-i.invariant.each j (omega (arith, l)) }
