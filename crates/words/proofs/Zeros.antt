-- The trailing zeros of a number: the digits below that place are 0, and the digit there is 1. Assumes nothing.
use mathlib.Core.Path.{◌≡◌, refl, sym, ap, subst, ◌∙◌}
use Prim.Native.Nat.{ℕ, zero, suc, ◌+◌, ◌/◌, ◌%◌, ◌^◌, ◌<◌}
use native.Mathlib.Nat.{div-one, div-div-eq-div-mul, pow-succ', div-lt_iff_lt-mul, pow-suc, mod-lt, zero-lt-suc}
use native.Mathlib.Omega.{arith}
use lib.Count.{count_trailing_zeros, trailing_le, under}

-- the digit at j + 1 is that of the half at j
digit-suc : (n j : ℕ) → n / 2 ^ suc j ≡ n / 2 / 2 ^ j
digit-suc n j = ap (λ (x : ℕ). n / x) (pow-succ' 2 j) ∙ sym (div-div-eq-div-mul n 2 (2 ^ j))

pub zeros-below : (k n j : ℕ) → j < count_trailing_zeros k n → n / 2 ^ j % 2 ≡ 0
unfolding count_trailing_zeros
zeros-below zero n j h = absurd (omega arith)
zeros-below (suc k) n j h = go (λ i l. zeros-below k (n / 2) i l) (n % 2) refl j h
  where
    go : ((i : ℕ) → i < count_trailing_zeros k (n / 2) → n / 2 / 2 ^ i % 2 ≡ 0)
        → (d : ℕ) → n % 2 ≡ d → (j : ℕ) → j < under d (count_trailing_zeros k (n / 2)) → n / 2 ^ j % 2 ≡ 0
    go ih zero e zero l = ap (λ (x : ℕ). x % 2) (div-one n) ∙ e
    go ih zero e (suc i) l = rw (digit-suc n i) (ih i (omega arith))
    go ih (suc d) e j l = absurd (omega arith)

pub one-there : (k n : ℕ) → 0 < n → n < 2 ^ k → n / 2 ^ count_trailing_zeros k n % 2 ≡ 1
unfolding count_trailing_zeros
one-there zero n p h = absurd (omega arith)
one-there (suc k) n p h = go (λ q. one-there k (n / 2) q ((div-lt_iff_lt-mul (zero-lt-suc 1)).1 (subst (λ (x : ℕ). n < x) (pow-suc 2 k) h))) (n % 2) refl
  where
    go : (0 < n / 2 → n / 2 / 2 ^ count_trailing_zeros k (n / 2) % 2 ≡ 1)
        → (d : ℕ) → n % 2 ≡ d → n / 2 ^ under d (count_trailing_zeros k (n / 2)) % 2 ≡ 1
    go ih zero e = rw (digit-suc n (count_trailing_zeros k (n / 2))) (ih (omega arith))
    go ih (suc d) e = ap (λ (x : ℕ). x % 2) (div-one n) ∙ omega (arith, e, mod-lt n (zero-lt-suc 1))

-- a place and the zeros of a 32-bit number stay within 32 bits, whatever the number
pub zeros-fit : (i n : ℕ) → i < 8 → i + count_trailing_zeros 32 n < 4_294_967_296
zeros-fit i n h = omega (arith, trailing_le 32 n)
