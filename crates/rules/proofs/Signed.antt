-- Whole numbers with a sign, as differences of two naturals: a sum, a product and the part above zero of such. Assumes nothing.
use Prim.Native.Nat.{ℕ, zero, suc, ◌+◌, ◌-◌, ◌*◌, ◌<◌, ◌≤◌}
use mathlib.Core.Path.{◌≡◌}
use mathlib.Core.Bool.{Bool, true, false, cond, not}
use native.Mathlib.Omega.{arith}
use lib.Dec.{T, ltb, ltb→lt, nltb→le}
use lib.IntN.{ℤ, pos, negsuc, neg_ℤ, sub_ℕ, ◌+ℤ◌, ◌-ℤ◌, ◌*ℤ◌}
use Rattle.rules.specs.Fuel.{not_below_zero}

-- the number is a - b
pub data Minus (a b : ℕ) : ℤ → Type 0 where
  above : (n : ℕ) → n + b ≡ a → Minus a b (pos n)
  below : (n : ℕ) → a + suc n ≡ b → Minus a b (negsuc n)

either : (c : Bool) (x y : ℤ) (P : ℤ → Type 0) → (T c → P x) → (T (not c) → P y) → P (cond c x y)
either true x y P f g = f tt
either false x y P f g = g tt

-- the same difference of two other naturals
minus-same : {z : ℤ} {a b : ℕ} (c d : ℕ) → a + d ≡ c + b → Minus a b z → Minus c d z
minus-same c d e (above n h) = above n (omega arith)
minus-same c d e (below n h) = below n (omega arith)

pub minus-sub : (a b : ℕ) → Minus a b (sub_ℕ a b)
minus-sub a b =
    either (ltb a b) (negsuc (b - suc a)) (pos (a - b)) (Minus a b)
    (λ t. let l : a < b = ltb→lt a b t in below (b - suc a) (omega arith)) (λ t. let l : b ≤ a = nltb→le a b t in above (a - b) (omega arith))

pub minus-of : (a b : ℕ) → Minus a b (pos a -ℤ pos b)
minus-of a zero = above (a + 0) (omega arith)
minus-of a (suc b) = minus-sub a (suc b)

pub minus-none : (n : ℕ) → Minus n 0 (pos n)
minus-none n = above n (omega arith)

minus_negated : (n : ℕ) {a b : ℕ} → n + b ≡ a → Minus b a (neg_ℤ (pos n))
minus_negated zero h = above 0 (omega arith)
minus_negated (suc n) h = below n (omega arith)

pub minus_plus : {y z : ℤ} {a b c d : ℕ} → Minus a b y → Minus c d z → Minus (a + c) (b + d) (y +ℤ z)
minus_plus (above m h) (above n k) = above (m + n) (omega arith)
minus_plus {a = a} {b} {c} {d} (above m h) (below n k) = minus-same (a + c) (b + d) (omega arith) (minus-sub m (suc n))
minus_plus {a = a} {b} {c} {d} (below m h) (above n k) = minus-same (a + c) (b + d) (omega arith) (minus-sub n (suc m))
minus_plus (below m h) (below n k) = below (suc (m + n)) (omega arith)

pub minus-times : {y z : ℤ} {a b c d : ℕ} → Minus a b y → Minus c d z → Minus (a * c + b * d) (a * d + b * c) (y *ℤ z)
minus-times (above m h) (above n k) = above (m * n) (rw (← h, ← k) (omega arith))
minus-times (above m h) (below n k) = minus_negated (m * suc n) (rw (← h, ← k) (omega arith))
minus-times (below m h) (above n k) = minus_negated (suc m * n) (rw (← h, ← k) (omega arith))
minus-times (below m h) (below n k) = above (suc m * suc n) (rw (← h, ← k) (omega arith))

pub minus-cut : {z : ℤ} {a b : ℕ} → Minus a b z → not_below_zero z ≡ a - b
minus-cut (above n h) = omega arith
minus-cut (below n h) = omega arith
