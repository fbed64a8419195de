-- A mask of the places below n with p has just those places, and no bit beyond them. Assumes nothing.
use Rattle.std.specs.Prelude.{if◌then◌else◌}
use Prim.Native.Nat.{ℕ, zero, suc, ◌+◌, ◌-◌, ◌*◌, ◌/◌, ◌%◌, ◌^◌, ◌≤◌, ◌<◌}
use mathlib.Core.Path.{◌≡◌, ap, ◌∙◌}
use mathlib.Core.Bool.{Bool, true, false}
use native.Mathlib.Omega.{arith}
use native.Mathlib.Decide.{dec_lt}
use native.Mathlib.Nat.{not-suc-le-zero, pow-suc, div-eq_of_lt, add-div_right, add-mul-div_right, add-mul-mod_self_right}
use lib.Pow.{pow-add, pow_pos}
use Rattle.rules.specs.Numbers.{has, mask_of}
use Rattle.rules.proofs.Tables.{has-beyond}

-- what a place adds is at most its bit's weight
pub weighed-most : (b : Bool) (weight : ℕ) → (if b then weight else 0) ≤ weight
weighed-most true weight = omega arith
weighed-most false weight = omega arith

pub mask_below : (n : ℕ) (p : ℕ → Bool) → mask_of n p < 2 ^ n
unfolding mask_of
mask_below zero p = omega arith
mask_below (suc n) p = rw pow-suc (let h = mask_below n p in omega (arith, weighed-most (p n) (2 ^ n)))

-- ---- the places of a mask m below 2 ^ n, and of m + 2 ^ n

module _ (n m : ℕ) (below : m < 2 ^ n) where
  top-here : (m + 2 ^ n) / 2 ^ n % 2 ≡ 1
  top-here =
      let e : m / 2 ^ n ≡ 0 = div-eq_of_lt below in
      rw (add-div_right m (pow_pos n), e)

  -- a bit above a place changes nothing there
  top_above : (i : ℕ) → i < n → (m + 2 ^ n) / 2 ^ i % 2 ≡ m / 2 ^ i % 2
  top_above i h =
      let s : n ≡ n - (i + 1) + 1 + i = omega arith in
      let w : 2 ^ n ≡ 2 ^ (n - (i + 1)) * 2 * 2 ^ i = ap (λ (x : ℕ). 2 ^ x) s ∙ pow-add 2 (n - (i + 1) + 1) i ∙ ap (λ (x : ℕ). x * 2 ^ i) (pow-add 2 (n - (i + 1)) 1) in
      ap (λ (x : ℕ). (m + x) / 2 ^ i % 2) w
      ∙ ap (λ (x : ℕ). x % 2) (add-mul-div_right m (2 ^ (n - (i + 1)) * 2) (pow_pos i))
      ∙ add-mul-mod_self_right (m / 2 ^ i) (2 ^ (n - (i + 1))) 2

  has-top : (b : Bool) (i : ℕ) → i < n → has (m + (if b then 2 ^ n else 0)) i ≡ has m i
  has-top true i h = rw (top_above i h)
  has-top false i h = let e : m + 0 ≡ m = omega arith in rw e

  has_last : (b : Bool) → has (m + (if b then 2 ^ n else 0)) n ≡ b
  has_last true = rw top-here
  has_last false = let e : m + 0 ≡ m = omega arith in rw e (has-beyond n m n below (omega arith))

pub mask-has : (p : ℕ → Bool) (n i : ℕ) → i < n → has (mask_of n p) i ≡ p i
unfolding mask_of
mask-has p zero i h = absurd (not-suc-le-zero h)
mask-has p (suc n) i h = go (mask-has p n i) (mask_below n p) (dec_lt i n)
  where
    go : (i < n → has (mask_of n p) i ≡ p i) → mask_of n p < 2 ^ n → Dec (i < n) → has (mask_of n p + (if p n then 2 ^ n else 0)) i ≡ p i
    go before below (yes k) = has-top n (mask_of n p) below (p n) i k ∙ before k
    go before below (no k) = let e : i ≡ n = omega (arith, k) in rw e (has_last n (mask_of n p) below (p n))
