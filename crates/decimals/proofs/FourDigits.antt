-- The word in which the code works four digits at once holds the four bytes, the first in its lowest part. Assumes nothing.
use Prim.Native.Nat.{ℕ, ◌+◌, ◌-◌, ◌*◌, ◌/◌, ◌%◌, ◌<◌}
use mathlib.Core.Path.{◌≡◌, ◌∙◌}
use mathlib.Core.List.{[], ◌∷◌}
use native.Mathlib.Omega.{arith}
use mir.Syntax.{w8}
use mir.Val.{Fits}
use Rattle.decimals.specs.Commaed.{last_digits}

-- the two pairs, each in its half
abbrev pub pairs : ℕ → ℕ
pairs n = n / 100 + 65536 * (n % 100)

abbrev pub tenths : ℕ → ℕ
tenths n = pairs n * 103 / 1024

-- the tens of each pair, in its half
abbrev pub tens : ℕ → ℕ
tens n = tenths n % 16 + tenths n / 65536 * 65536

abbrev pub word : ℕ → ℕ
word n = 808464432 + 256 * pairs n - 2559 * tens n

lower : (a b : ℕ) → a < 10 → (a + 6592 * b) % 16 ≡ a
lower a b h = omega arith

upper : (a b : ℕ) → a < 10 → b < 100 → (a + 6592 * b) / 65536 ≡ b / 10
upper a b h k = omega arith

-- four digits, the first in the lowest byte
abbrev packed : ℕ → ℕ → ℕ → ℕ → ℕ
packed a b c d = (48 + a) + 256 * (48 + b) + 65536 * (48 + c) + 16777216 * (48 + d)

packs : (high low a b c d : ℕ) → high ≡ 10 * a + b → low ≡ 10 * c + d → 808464432 + 256 * (high + 65536 * low) - 2559 * (a + 65536 * c) ≡ packed a b c d
packs high low a b c d h k = omega arith

lowest : (x y w : ℕ) → x < 256 → w ≡ x + 256 * y → w % 256 ≡ x
lowest x y w h e = omega arith

unpacks : (a b c d : ℕ) → a < 10 → b < 10 → c < 10 → d < 10
    → (packed a b c d % 256) ∷ (packed a b c d / 256 % 256) ∷ (packed a b c d / 65536 % 256) ∷ (packed a b c d / 16777216) ∷ [] ≡ (48 + a) ∷ (48 + b) ∷ (48 + c) ∷ (48 + d) ∷ []
unpacks a b c d h k l m =
    let w : ℕ = packed a b c d in
    let first : w % 256 ≡ 48 + a = lowest (48 + a) ((48 + b) + 256 * (48 + c) + 65536 * (48 + d)) w (omega arith) (omega arith) in
    let from_second : w / 256 ≡ (48 + b) + 256 * ((48 + c) + 256 * (48 + d)) = omega arith in
    let second : w / 256 % 256 ≡ 48 + b = lowest (48 + b) ((48 + c) + 256 * (48 + d)) (w / 256) (omega arith) from_second in
    let from-third : w / 65536 ≡ (48 + c) + 256 * (48 + d) = omega arith in
    let third : w / 65536 % 256 ≡ 48 + c = lowest (48 + c) (48 + d) (w / 65536) (omega arith) from-third in
    let fourth : w / 16777216 ≡ 48 + d = omega arith in
    rw (first, second, third, fourth)

module _ (n : ℕ) (h : n < 10000) where
  tenths-is : tenths n ≡ n / 100 / 10 + 6592 * (n % 100)
  tenths-is = omega arith

  pub tens-is : tens n ≡ n / 100 / 10 + 65536 * (n % 100 / 10)
  tens-is =
      let low : tenths n % 16 ≡ n / 100 / 10 = rw tenths-is (lower (n / 100 / 10) (n % 100) (omega arith)) in
      let high : tenths n / 65536 ≡ n % 100 / 10 = rw tenths-is (upper (n / 100 / 10) (n % 100) (omega arith) (omega arith)) in
      rw (low, high) (omega arith)

  word-is : word n ≡ packed (n / 100 / 10) (n / 100 % 10) (n % 100 / 10) (n % 10)
  word-is = rw tens-is (packs (n / 100) (n % 100) (n / 100 / 10) (n / 100 % 10) (n % 100 / 10) (n % 10) (omega arith) (omega arith))

  -- THE FOUR BYTES of the word
  pub word-digits : (word n % 256) ∷ (word n / 256 % 256) ∷ (word n / 65536 % 256) ∷ (word n / 16777216) ∷ [] ≡ last_digits 4 n
  unfolding last_digits
  word-digits =
      let a : n / 100 / 10 ≡ n / 10 / 10 / 10 % 10 = omega arith in
      let b : n / 100 % 10 ≡ n / 10 / 10 % 10 = omega arith in
      let c : n % 100 / 10 ≡ n / 10 % 10 = omega arith in
      rw word-is (unpacks (n / 100 / 10) (n / 100 % 10) (n % 100 / 10) (n % 10) (omega arith) (omega arith) (omega arith) (omega arith) ∙ rw (a, b, c))

-- ---- that nothing is lost on the way

pub byte_fits : (x : ℕ) → Fits w8 (x % 256)
byte_fits x = record { fits = omega arith }
