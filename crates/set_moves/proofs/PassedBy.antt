-- The places that a walk over a mask's sets passes by: what a place without a set leaves true is true at the walk's next set.
-- Assumes nothing.
use Rattle.std.proofs.Common.{◌≡◌, ℕ, zero, suc, ◌+◌, ◌-◌, ◌<◌, ◌≤◌, false, arith}
use Rattle.rules.specs.Numbers.{has}
use Rattle.words.specs.Masks.{next_set}
use Rattle.words.proofs.Walk.{place, next-from, between}

module _ (mask : ℕ) (P : ℕ → Type 0) (passed-by : (i : ℕ) → i < 8 → has mask i ≡ false → P i → P (suc i)) where
  all-passed-by : (i n : ℕ) → i + n ≤ 8 → ((k : ℕ) → i ≤ k → k < i + n → has mask k ≡ false) → P i → P (i + n)
  all-passed-by i zero l none now = let e : i + 0 ≡ i = omega arith in rw e now
  all-passed-by i (suc n) l none now =
      let e : i + suc n ≡ suc (i + n) = omega arith in
      rw e (passed-by (i + n) (omega arith) (none (i + n) (omega arith) (omega arith)) (all-passed-by i n (omega arith) (λ k a b. none k a (omega arith)) now))

  pub to-next : (i : ℕ) → i ≤ 8 → P i → P (next_set mask i)
  to-next i l now =
      let e : i + (next_set mask i - i) ≡ next_set mask i = omega (arith, next-from mask i) in
      rw e at (all-passed-by i (next_set mask i - i) (omega (arith, (place mask i l).range, e)) (λ k a b. between mask i k a (omega arith)) now)
