-- `sizing::fuel::rate_of_station` meets its contract. Assumes nothing.
use Rattle.std.specs.Prelude.{Result, Ok, Err}
use Rattle.std.specs.Result.{result_or}
use Prim.Native.Nat.{ℕ, ◌≤◌}
use mathlib.Core.Path.{◌≡◌, refl, sym, ap, ap₂, ◌∙◌}
use mathlib.Core.Bool.{true, ◌&&◌}
use native.Mathlib.Omega.{arith}
use lib.Count.{ones}
use lib.Dec.{eqb}
use borrow.Author.Tests.{eqb-true}
use Rattle.rules.specs.declared.answers.Refusal.TheVariants.{OverLimit}
use Rattle.rules.specs.Numbers.{existing_only}
use Rattle.rules.specs.StationRecord.{past_end, set_at}
use Rattle.rules.specs.Answers.{result_of}
use Rattle.rules.specs.Share.{capacity}
use Rattle.rules.specs.Sizing.{rate_of, rate_of_mask}
use Rattle.rules.proofs.Tests.{both}
use Rattle.gensets.specs.declared.fuel.NoRate.{NoRate}
use Rattle.gensets.specs.Leaves.{rate_told}
use Rattle.gensets.proofs.FileCapacity.{capacity-most}
use Rattle.sizing.proofs.Asked.{mask-wrong, power-above, value-given, mask-small, inside, one-rate}
use Rattle.sizing.proofs.fuel.rate_of_station.Goals as goal
use Rattle.sizing.proofs.fuel.rate_of_station.Goals.{Else-not-existing_only-mask, Else-capacity-power, After-fuel_rate-rate}

-- what the test of the mask says
tested : (c : Else-not-existing_only-mask) → existing_only c.args.st.setcount c.args.mask && eqb (ones c.args.mask) 1 ≡ true
tested c = ap₂ ◌&&◌ (sym c.existing_only.ensures) refl ∙ c.if-not-existing_only-mask.false

exists : (c : Else-not-existing_only-mask) → (existing_only c.args.st.setcount c.args.mask ≡ true) × (ones c.args.mask ≡ 1)
exists c =
    let a = c.args in
    let t = both (existing_only a.st.setcount a.mask) (eqb (ones a.mask) 1) (tested c) in
    (t.0, eqb-true (ones a.mask) 1 t.1)

-- a power above the capacity was refused
allowed : (c : Else-capacity-power) → c.args.power ≤ capacity c.args.st.sets c.args.mask
allowed c = omega (arith, c.capacity.ensures, c.if-capacity-power.false)

-- the set's answer is the rate that the rules have for the mask
told : (c : After-fuel_rate-rate) →
    let a = c.args in
    c.fuel_rate-rate.result ≡ Ok (rate_of_mask a.st a.mask a.power)
unfolding set_at past_end
told c =
    let a = c.args in
    c.fuel_rate-rate.ensures
    ∙ (ap (λ (i : ℕ). rate_told (set_at a.st.sets i) a.power) c.next_set-at.ensures
    ∙ one-rate a.st c.requires.0 c.requires.1 a.mask (exists c.before.before.before.before.before.before).0 (exists c.before.before.before.before.before.before).1 a.power (allowed c.before.before.before))

pub returns-then-not-existing_only-mask : goal.returns-then-not-existing_only-mask
unfolding rate_of
returns-then-not-existing_only-mask c =
    let a = c.args in
    mask-wrong (existing_only a.st.setcount a.mask && eqb (ones a.mask) 1) a.power (capacity a.st.sets a.mask) (rate_of_mask a.st a.mask a.power) (ap₂ ◌&&◌ (sym c.existing_only.ensures) refl ∙ c.if-not-existing_only-mask.true)

pub overflow_cast-named : goal.overflow_cast-named
overflow_cast-named c = record { fits = omega (arith, mask-small c.args.st c.requires.0 c.args.mask (exists (goal.at.overflow_cast-named c).Else-not-existing_only-mask).0) }

pub returns-then-capacity-power : goal.returns-then-capacity-power
unfolding rate_of
returns-then-capacity-power c =
    let a = c.args in
    power-above (existing_only a.st.setcount a.mask && eqb (ones a.mask) 1) a.power (capacity a.st.sets a.mask) (rate_of_mask a.st a.mask a.power) (tested (goal.at.returns-then-capacity-power c).Else-not-existing_only-mask) (omega (arith, c.capacity.ensures, c.if-capacity-power.true))

pub bounds-st-at : goal.bounds-st-at
bounds-st-at c =
    let e = c.next_set-at.ensures in
    rw e (inside c.args.st c.requires.0 c.requires.1 c.args.mask (exists (goal.at.bounds-st-at c).Else-not-existing_only-mask).0 (exists (goal.at.bounds-st-at c).Else-not-existing_only-mask).1)

pub overflow_cast-power : goal.overflow_cast-power
overflow_cast-power c =
    record { fits = omega (arith, capacity-most c.args.st c.requires.0 c.args.mask, c.capacity.ensures, c.if-capacity-power.false) }

pub returns : goal.returns
unfolding rate_of
returns c =
    let a = c.args in
    ap result_of (c.or.ensures ∙ ap (λ (r : Result ℕ NoRate). result_or r (Err (OverLimit 0))) (told (goal.at.returns c).After-fuel_rate-rate))
    ∙ value-given (existing_only a.st.setcount a.mask && eqb (ones a.mask) 1) a.power (capacity a.st.sets a.mask) (rate_of_mask a.st a.mask a.power) (tested (goal.at.returns c).Else-not-existing_only-mask) (allowed (goal.at.returns c).Else-capacity-power)
