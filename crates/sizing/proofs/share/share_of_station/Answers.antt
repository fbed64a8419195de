-- `sizing::share::share_of_station` meets its contract. Assumes nothing.
use Prim.Native.Nat.{◌<◌}
use mathlib.Core.Path.{◌≡◌, refl, sym, ap, ap₂, ◌∙◌}
use mathlib.Core.Bool.{true, ◌&&◌}
use native.Mathlib.Omega.{arith}
use lib.Dec.{ltb}
use Rattle.rules.specs.Numbers.{existing_only}
use Rattle.rules.specs.Answers.{accepted}
use Rattle.rules.specs.Share.{capacity}
use Rattle.rules.specs.Sizing.{share_of, share_of_set}
use Rattle.rules.proofs.Tests.{both}
use Rattle.gensets.proofs.FileCapacity.{capacity-most}
use Rattle.sizing.proofs.Asked.{mask-wrong, power-above, value-given, mask-small}
use Rattle.sizing.proofs.share.share_of_station.Goals as goal
use Rattle.sizing.proofs.share.share_of_station.Goals.{Else-not-existing_only-mask}

-- what the test of the mask says
tested : (c : Else-not-existing_only-mask) → existing_only c.args.st.setcount c.args.mask && ltb 0 c.args.mask ≡ true
tested c = ap₂ ◌&&◌ (sym c.existing_only.ensures) refl ∙ c.if-not-existing_only-mask.false

small : (c : Else-not-existing_only-mask) → c.args.mask < 256
small c =
    mask-small c.args.st c.requires c.args.mask (both (existing_only c.args.st.setcount c.args.mask) (ltb 0 c.args.mask) (tested c)).0

pub returns-then-not-existing_only-mask : goal.returns-then-not-existing_only-mask
unfolding share_of
returns-then-not-existing_only-mask c =
    let a = c.args in
    mask-wrong (existing_only a.st.setcount a.mask && ltb 0 a.mask) a.power (capacity a.st.sets a.mask) (share_of_set a.st a.mask a.power a.set) (ap₂ ◌&&◌ (sym c.existing_only.ensures) refl ∙ c.if-not-existing_only-mask.true)

pub overflow_cast-named : goal.overflow_cast-named
overflow_cast-named c = record { fits = omega (arith, small (goal.at.overflow_cast-named c).Else-not-existing_only-mask) }

pub returns-then-capacity-power : goal.returns-then-capacity-power
unfolding share_of
returns-then-capacity-power c =
    let a = c.args in
    power-above (existing_only a.st.setcount a.mask && ltb 0 a.mask) a.power (capacity a.st.sets a.mask) (share_of_set a.st a.mask a.power a.set) (tested (goal.at.returns-then-capacity-power c).Else-not-existing_only-mask) (omega (arith, c.capacity.ensures, c.if-capacity-power.true))

pub overflow_cast-power : goal.overflow_cast-power
overflow_cast-power c =
    record { fits = omega (arith, capacity-most c.args.st c.requires c.args.mask, c.capacity.ensures, c.if-capacity-power.false) }

pub returns : goal.returns
unfolding share_of
returns c =
    let a = c.args in
    ap accepted c.share_of_set.ensures
    ∙ value-given (existing_only a.st.setcount a.mask && ltb 0 a.mask) a.power (capacity a.st.sets a.mask) (share_of_set a.st a.mask a.power a.set) (tested (goal.at.returns c).Else-not-existing_only-mask) (omega (arith, c.capacity.ensures, c.if-capacity-power.false))
