-- `records::decided::decided_possible` meets its contract: the loop asks each amount once. Assumes nothing.
use mathlib.Core.Path.{◌≡◌, refl, ap}
use native.Mathlib.Omega.{arith}
use lib.Dec.{leb}
use lib.ListN.{get_or}
use Rattle.rules.specs.Numbers.{all_to}
use Rattle.rules.specs.RunRecord.{decided_possible}
use Rattle.rules.proofs.Tests.{all-turn}
use Rattle.records.proofs.decided.decided_possible.Invariants.{amount_possible}
use Rattle.records.proofs.decided.decided_possible.Goals as goal

pub loop-i-init : goal.loop-i-init
unfolding all_to
loop-i-init c = refl

pub loop-i-preserved : goal.loop-i-preserved
loop-i-preserved c =
    let a = c.args in
    all-turn (amount_possible a.delay a.decided) c.loop-i.i c.loop-i.possible _ c.loop-i.invariant (ap (leb (get_or a.decided c.loop-i.i 0)) c.most_decided.ensures)

pub returns : goal.returns
unfolding decided_possible
returns c = let e : c.loop-i.i ≡ 60 = omega arith in rw e at c.loop-i.invariant
