-- Laws of little-endian numbers: a byte more, the bytes of a part, how large they are. Assumes nothing.
use Prim.Native.Nat.{ℕ, zero, suc, ◌+◌, ◌-◌, ◌*◌, ◌^◌, ◌≤◌, ◌<◌, min}
use mathlib.Core.Path.{◌≡◌, refl, sym, ap, ◌∙◌}
use mathlib.Core.List.{List, [], ◌∷◌}
use native.Mathlib.Omega.{arith}
use native.Mathlib.Decide.{dec_lt}
use native.Mathlib.Nat.{pow-suc, pow-le-pow_right, zero-lt-suc, lt_of_lt_of_le}
use lib.ListN.{length, take, drop, get_or, drop_of_length-le}
use lib.Seq.{drop-cons}
use Rattle.rules.specs.Bytes.{little}

little-nil : (k : ℕ) → little k [] ≡ 0
unfolding little
little-nil zero = refl
little-nil (suc k) = refl

-- past the last byte every byte counts 0
pub little-none : (k at : ℕ) (s : List ℕ) → length s ≤ at → little k (drop at s) ≡ 0
little-none k at s h = ap (little k) (drop_of_length-le s h) ∙ little-nil k

-- a byte in front of the number read so far
pub little-turn : (k at : ℕ) (s : List ℕ) → at < length s → little (suc k) (drop at s) ≡ get_or s at 0 + 256 * little k (drop (suc at) s)
unfolding little
little-turn k at s h = ap (little (suc k)) (drop-cons s at 0 h)

-- n bytes give a number below 256 ^ n
pub below-turn : (k number byte : ℕ) → number < 256 ^ k → byte < 256 → number * 256 + byte < 256 ^ suc k
below-turn k number byte h b = rw pow-suc (omega (arith, h, b))

-- ---- reading from the last byte of at most eight down

pub read_none : (at : ℕ) (s : List ℕ) → at ≡ min 8 (length s) → 0 ≡ little (8 - at) (drop at s)
unfolding little
read_none at s h = go (dec_lt at (length s))
  where
    go : Dec (at < length s) → 0 ≡ little (8 - at) (drop at s)
    go (yes k) = let e : 8 - at ≡ 0 = omega (arith, h, k) in rw e
    go (no k) = sym (little-none (8 - at) at s (omega (arith, k)))

pub read-turn : (at number byte : ℕ) (s : List ℕ) → 0 < at → at ≤ 8 → at ≤ length s
    → number ≡ little (8 - at) (drop at s) → byte ≡ get_or s (at - 1) 0 → number * 256 + byte ≡ little (8 - (at - 1)) (drop (at - 1) s)
read-turn at number byte s p l m e b =
    let k : 8 - (at - 1) ≡ suc (8 - at) = omega arith in
    let n : suc (at - 1) ≡ at = omega arith in
    let t = little-turn (8 - at) (at - 1) s (omega arith) in
    rw (k, t, n, e, b) (omega arith)

pub below_next : (most at number byte : ℕ) → 0 < at → at ≤ most → number < 256 ^ (most - at) → byte < 256 → number * 256 + byte < 256 ^ (most - (at - 1))
below_next most at number byte p l h b = let k : most - (at - 1) ≡ suc (most - at) = omega arith in rw k (below-turn (most - at) number byte h b)

-- a part of as many bytes as the number has gives the number
pub little-part : (width more : ℕ) (s : List ℕ) → width ≤ more → little more (take width s) ≡ little width s
unfolding little
little-part zero more s h = little-nil more
little-part (suc width) zero s h = absurd (omega arith)
little-part (suc width) (suc more) [] h = refl
little-part (suc width) (suc more) (x ∷ s) h = ap (λ (n : ℕ). x + 256 * n) (little-part width more s (omega arith))

-- 8 bytes fit a number of 64 bits
pub below-most : (k number : ℕ) → k ≤ 8 → number < 256 ^ k → number < 256 ^ 8
below-most k number h l = lt_of_lt_of_le l (pow-le-pow_right (zero-lt-suc 255) h)
