-- A mask without sets beyond the first n is one below 2 ^ n: by its quotient, as the code asks. Assumes nothing.
use Prim.Native.Nat.{ℕ, ◌/◌, ◌^◌, ◌≤◌, ◌<◌}
use mathlib.Core.Path.{◌≡◌, sym, ◌∙◌}
use mathlib.Core.Bool.{true}
use native.Mathlib.Omega.{arith}
use native.Mathlib.Decide.{dec_lt}
use native.Mathlib.Nat.{div-eq_of_lt, div-lt_iff_lt-mul, lt_of_lt_of_le}
use lib.Dec.{eqb, ltb}
use lib.Pow.{pow_mono, pow_pos}
use borrow.Author.Tests.{lt-ltb, le-ltb, eq-eqb, ne_eqb}
use Rattle.rules.specs.Numbers.{existing_only}

pub none_above : (n mask : ℕ) → eqb (mask / 2 ^ n) 0 ≡ existing_only n mask
none_above n mask = go (dec_lt mask (2 ^ n))
  where
    go : Dec (mask < 2 ^ n) → eqb (mask / 2 ^ n) 0 ≡ ltb mask (2 ^ n)
    go (yes h) = eq-eqb (mask / 2 ^ n) 0 (div-eq_of_lt h) ∙ sym (lt-ltb mask (2 ^ n) h)
    go (no h) =
        ne_eqb (mask / 2 ^ n) 0 (λ z. let k = (div-lt_iff_lt-mul {x = mask} {y = 1} (pow_pos n)).0 (omega (arith, z)) in omega (arith, h, k))
        ∙ sym (le-ltb mask (2 ^ n) (omega (arith, h)))

-- no mask of 64 bits has a set beyond 64 or more
pub all_there : (n mask : ℕ) → 64 ≤ n → mask < 2 ^ 64 → true ≡ existing_only n mask
all_there n mask h l = sym (lt-ltb mask (2 ^ n) (lt_of_lt_of_le l (pow_mono h)))
