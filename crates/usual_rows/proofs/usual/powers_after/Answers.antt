-- `usual_rows::usual::powers_after` meets its contract. Assumes nothing.
use Rattle.std.proofs.Common.{◌≡◌, ℕ, ◌<◌, length, refl, subst, arith, length-set}
use Rattle.usual_rows.specs.Usual.{PowerTaken, PowersTaken}
use Rattle.usual_rows.proofs.PowersLaws.{powers-end, power-more}
use Rattle.usual_rows.proofs.usual.powers_after.Goals as goal

pub loop-watt-init : goal.loop-watt-init
loop-watt-init c = (refl, refl)

pub power_after-requires : goal.power_after-requires
power_after-requires c =
    let l = c.loop-watt in
    let a = c.args in
    let e = powers-end l.watt-index a.text.now a.comma l.end l.watt-items l.invariant.1 in
    omega (arith, e, c.requires, c.loop-watt-test.true)

pub loop-watt-preserved : goal.loop-watt-preserved
loop-watt-preserved c =
    let l = c.loop-watt in
    let a = c.args in
    let read = c.in-Some.power in
    let h : l.watt-index < length l.watt-items = omega (arith, l.invariant.0) in
    let power : PowerTaken a.text.now l.end read.end read.number = rw c.in-Some.is at c.power_after.ensures in
    (simp length-set l.invariant.0, power-more l.watt-index a.text.now a.comma l.end l.watt-items read.end read.number h l.invariant.1 power)

pub returns : goal.returns
returns c =
    let l = c.loop-watt in
    let a = c.args in
    let three : l.watt-index ≡ 3 = omega arith in
    subst (λ (n : ℕ). PowersTaken n a.text.now a.comma l.end l.watt-items) three l.invariant.1
