-- A percentage worked in two parts, so that no product is as large as that of the whole. Assumes nothing.
use Prim.Native.Nat.{ℕ, ◌+◌, ◌*◌, ◌/◌, ◌%◌, ◌≤◌, ◌<◌}
use mathlib.Core.Path.{◌≡◌, ap, ◌∙◌}
use native.Mathlib.Omega.{arith}
use native.Mathlib.Nat.{add-mul, mul_assoc, mul-le-mul}

-- the hundreds of x, and what is left of it
pub in_parts : (x p : ℕ) → x / 100 * p + x % 100 * p / 100 ≡ x * p / 100
in_parts x p =
    let whole : x ≡ 100 * (x / 100) + x % 100 = omega arith in
    let apart : x * p ≡ 100 * (x / 100 * p) + x % 100 * p = ap (λ (n : ℕ). n * p) whole ∙ add-mul (100 * (x / 100)) (x % 100) p ∙ ap (λ (n : ℕ). n + x % 100 * p) (mul_assoc 100 (x / 100) p) in
    omega (arith, apart)

-- both parts of a percentage of eight ratings
pub hundreds-most : (x p : ℕ) → x ≤ 34_359_738_360 → p < 4_294_967_296 → x / 100 * p ≤ 1_475_739_522_632_588_985
hundreds-most x p h l = mul-le-mul {n₂ = 343_597_383} {m₂ = 4_294_967_295} (omega arith) (omega arith)

pub left-most : (x p : ℕ) → p < 4_294_967_296 → x % 100 * p ≤ 425_201_762_205
left-most x p l = mul-le-mul {n₂ = 99} {m₂ = 4_294_967_295} (omega arith) (omega arith)
