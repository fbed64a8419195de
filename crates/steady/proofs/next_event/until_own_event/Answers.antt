-- `steady::next_event::until_own_event` meets its contract, mode by mode. Assumes nothing.
use Prim.Native.Nat.{ℕ, ◌-◌, ◌≤◌}
use mathlib.Core.Path.{◌≡◌, refl}
use mathlib.Core.Logic.{◌⊎◌, inl, inr}
use native.Mathlib.Omega.{arith}
use Rattle.rules.specs.declared.run.Mode.TheVariants.{Off, Warming, Cooling, Service}
use Rattle.rules.specs.declared.station.GenSet.{GenSet}
use Rattle.rules.specs.declared.run.SetState.{SetState}
use Rattle.steady.specs.NextEvent.{longest, lasts, NoOwnEvent}
use Rattle.steady.proofs.EventLaws.{idle-lasts, on-lasts}
use Rattle.steady.proofs.next_event.until_own_event.Goals as goal

-- a set with a timed mode, of which so many seconds are left
timed-lasts : (g : GenSet) (s : SetState) (left seconds : ℕ) → (s.mode ≡ Warming left) ⊎ ((s.mode ≡ Cooling left) ⊎ (s.mode ≡ Service left))
    → seconds ≤ longest → seconds ≤ left - 1 → NoOwnEvent g s seconds
unfolding lasts
timed-lasts g s left seconds (inl e) h k = idle-lasts g s (Warming left) seconds e refl h k
timed-lasts g s left seconds (inr (inl e)) h k = idle-lasts g s (Cooling left) seconds e refl h k
timed-lasts g s left seconds (inr (inr e)) h k = idle-lasts g s (Service left) seconds e refl h k

pub returns-in-Off : goal.returns-in-Off
unfolding lasts
returns-in-Off c = idle-lasts _ _ Off _ c.in-Off.is refl (omega arith) (omega arith)

pub returns-in-Warming : goal.returns-in-Warming
returns-in-Warming c =
    timed-lasts c.args.genset c.args.state c.in-Warming.left _ c.in-Warming.is (omega (arith, c.saturating_sub.ensures)) (omega (arith, c.saturating_sub.ensures))

pub returns-in-On : goal.returns-in-On
returns-in-On c = on-lasts _ _ _ c.in-On.is c.due_after.ensures.0 c.due_after.ensures.1
