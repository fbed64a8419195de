-- `steady::next_event::unmoved` meets its contract, mode by mode. Assumes nothing.
use Prim.Native.Nat.{ℕ}
use mathlib.Core.Path.{◌≡◌}
use mathlib.Core.Bool.{Bool, true}
use mathlib.Core.Logic.{◌⊎◌, inl, inr}
use Rattle.rules.specs.declared.run.Mode.{Mode}
use Rattle.rules.specs.declared.run.Mode.TheVariants.{Cooling, Service}
use Rattle.steady.specs.NextEvent.{unmoved}
use Rattle.steady.proofs.next_event.unmoved.Goals as goal

not-commanded : (m : Mode) (called release : Bool) → ((x : ℕ) × (m ≡ Cooling x)) ⊎ ((x : ℕ) × (m ≡ Service x)) → true ≡ unmoved m called release
unfolding unmoved
not-commanded m called release (inl (x, e)) = rw e
not-commanded m called release (inr (x, e)) = rw e

pub returns-in-Off : goal.returns-in-Off
unfolding unmoved
returns-in-Off c = simp c.in-Off.is

pub returns-in-Warming : goal.returns-in-Warming
unfolding unmoved
returns-in-Warming c = simp c.in-Warming.is

pub returns-in-On : goal.returns-in-On
unfolding unmoved
returns-in-On c = simp c.in-On.is

pub returns-in-Cooling : goal.returns-in-Cooling
returns-in-Cooling c = not-commanded c.args.mode c.args.called c.args.release c.in-Cooling.is
