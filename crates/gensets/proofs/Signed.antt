-- Signed numbers of 64 bits by their distance from zero, and a negative number made zero. Assumes nothing.
use mathlib.Core.Path.{◌≡◌, refl, subst}
use mathlib.Core.Bool.{true, false}
use Prim.Native.Nat.{ℕ, ◌≤◌, ◌<◌}
use native.Mathlib.Nat.{le_refl, le_trans, lt_of_le_of_lt, not-suc-le-zero}
use native.Mathlib.Omega.{arith}
use lib.Dec.{T}
use lib.IntN.{ℤ, pos, negsuc, nat_abs}
use lib.Signed.{mag, lt_z, non_neg}
use borrow.Author.Tests.{ltb-true}
use mir.Syntax.{w64}
use mir.Val.{SFits}
use Rattle.rules.specs.Fuel.{not_below_zero}

mag-le : (z : ℤ) → mag z ≤ nat_abs z
mag-le (pos n) = le_refl n
mag-le (negsuc n) = omega arith

-- a number near enough to zero is one of 64 bits
pub sfits : (z : ℤ) {n : ℕ} → nat_abs z ≤ n → n < 9_223_372_036_854_775_808 → SFits w64 z
sfits z h k = record { sfits = lt_of_le_of_lt (le_trans (mag-le z) h) k }

-- a negative number is made zero
pub cut_below : (z : ℤ) → lt_z z (pos 0) ≡ true → 0 ≡ not_below_zero z
cut_below (pos n) h = absurd (not-suc-le-zero (ltb-true n 0 h))
cut_below (negsuc n) h = refl

-- and any other stays
pub cut-above : (z : ℤ) → lt_z z (pos 0) ≡ false → nat_abs z ≡ not_below_zero z
cut-above (pos n) h = refl
cut-above (negsuc n) h = absurd (subst T h tt)

pub above : (z : ℤ) → lt_z z (pos 0) ≡ false → T (non_neg z)
above (pos n) h = tt
above (negsuc n) h = absurd (subst T h tt)
