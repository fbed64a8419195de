-- `steady::next_event::unmoved_all` meets its contract. Assumes nothing.
use mathlib.Core.Path.{◌≡◌, refl}
use native.Mathlib.Omega.{arith}
use Rattle.rules.specs.Numbers.{all_to}
use Rattle.rules.specs.Modes.{state_at}
use Rattle.rules.proofs.Tests.{all-turn}
use Rattle.steady.specs.NextEvent.{unmoved_all}
use Rattle.steady.proofs.next_event.unmoved_all.Goals as goal

pub loop-i-init : goal.loop-i-init
unfolding all_to
loop-i-init c = (c.every_on-release.ensures, refl)

pub loop-i-preserved : goal.loop-i-preserved
unfolding state_at
loop-i-preserved c = (c.loop-i.invariant.0, all-turn _ c.loop-i.i _ _ c.loop-i.invariant.1 (rw (c.unmoved-ok.ensures, c.has_set.ensures, c.loop-i.invariant.0)))

pub returns : goal.returns
unfolding unmoved_all
returns c = let e : c.loop-i.i ≡ 8 = omega arith in rw e at c.loop-i.invariant.1
