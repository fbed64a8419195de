-- Laws of decimal numbers: that enough room gives the same digits, one digit and more, how many digits there are, and that a number
-- reads back from its digits. Assumes nothing.
use Rattle.std.specs.Prelude.{if◌then◌else◌}
use Prim.Native.Nat.{ℕ, zero, suc, ◌+◌, ◌-◌, ◌*◌, ◌/◌, ◌%◌, ◌^◌, ◌≤◌, ◌<◌}
use mathlib.Core.Path.{◌≡◌, refl, sym, ap, ◌∙◌}
use mathlib.Core.Bool.{Bool, true, false}
use mathlib.Core.List.{List, [], ◌∷◌, ◌++◌}
use native.Mathlib.Nat.{pow-suc}
use native.Mathlib.Omega.{arith}
use lib.Dec.{ltb}
use lib.ListN.{length, length-append}
use borrow.Author.Tests.{lt-ltb, le-ltb}
use Rattle.rules.specs.Bytes.{digits_in, decimal, value_from, value}

div-pow : (n f : ℕ) → n < 10 ^ suc (suc f) → n / 10 < 10 ^ suc f
div-pow n f h = let k : n < 10 ^ suc f * 10 = rw pow-suc at h in omega arith

-- any room that is enough gives the same digits
pub enough : (f g n : ℕ) → n < 10 ^ suc f → n < 10 ^ suc g → digits_in f n ≡ digits_in g n
unfolding digits_in
enough zero zero n h k = refl
enough zero (suc g) n h k = let l : n < 10 = h in rw (lt-ltb n 10 l)
enough (suc f) zero n h k = let l : n < 10 = k in rw (lt-ltb n 10 l)
enough (suc f) (suc g) n h k = go (ltb n 10) (enough f g (n / 10) (div-pow n f h) (div-pow n g k))
  where
    go : (b : Bool) → digits_in f (n / 10) ≡ digits_in g (n / 10)
        → (if b then (48 + n) ∷ [] else digits_in f (n / 10) ++ ((48 + n % 10) ∷ [])) ≡ (if b then (48 + n) ∷ [] else digits_in g (n / 10) ++ ((48 + n % 10) ∷ []))
    go true e = refl
    go false e = ap (λ (l : List ℕ). l ++ ((48 + n % 10) ∷ [])) e

-- a number is below ten to its own power, so that it is room enough for itself
below-pow : (n : ℕ) → n < 10 ^ suc n
below-pow zero = omega arith
below-pow (suc n) = let h = below-pow n in rw pow-suc (omega arith)

pub decimal-in : (f n : ℕ) → n < 10 ^ suc f → decimal n ≡ digits_in f n
unfolding decimal
decimal-in f n h = enough n f n (below-pow n) h

-- ---- one digit, and more

pub decimal-one : (n : ℕ) → n < 10 → decimal n ≡ (48 + n) ∷ []
unfolding digits_in
decimal-one n h = decimal-in 0 n h

pub decimal-more : (n : ℕ) → 10 ≤ n → decimal n ≡ decimal (n / 10) ++ ((48 + n % 10) ∷ [])
unfolding digits_in
decimal-more n h =
    let b = below-pow n in
    decimal-in (suc n) n (rw pow-suc (omega arith)) ∙ rw (le-ltb n 10 h) (ap (λ (l : List ℕ). l ++ ((48 + n % 10) ∷ [])) (sym (decimal-in n (n / 10) (omega arith))))

-- ---- how many digits

in-length : (f n : ℕ) → length (digits_in f n) ≤ suc f
unfolding digits_in
in-length zero n = omega arith
in-length (suc f) n = go (ltb n 10) (in-length f (n / 10))
  where
    go : (b : Bool) → length (digits_in f (n / 10)) ≤ suc f → length (if b then (48 + n) ∷ [] else digits_in f (n / 10) ++ ((48 + n % 10) ∷ [])) ≤ suc (suc f)
    go true h = omega arith
    go false h = omega (arith, length-append (digits_in f (n / 10)) ((48 + n % 10) ∷ []))

pub most-digits : (f n : ℕ) → n < 10 ^ suc f → length (decimal n) ≤ suc f
most-digits f n h = rw (decimal-in f n h) (in-length f n)

-- of a number of 32 bits at most 10, of one of 64 bits at most 20
pub digits-32 : (n : ℕ) → n < 2 ^ 32 → length (decimal n) ≤ 10
digits-32 n h = most-digits 9 n (omega arith)

pub digits-64 : (n : ℕ) → n < 2 ^ 64 → length (decimal n) ≤ 20
digits-64 n h = most-digits 19 n (omega arith)

-- ---- what is written reads back

value-append : (v : ℕ) (xs : List ℕ) (d : ℕ) → value_from v (xs ++ (d ∷ [])) ≡ value_from v xs * 10 + (d - 48)
unfolding value_from
value-append v [] d = refl
value-append v (x ∷ xs) d = value-append (v * 10 + (x - 48)) xs d

value_in : (room n : ℕ) → value (digits_in room n) ≡ n
unfolding digits_in value_from
value_in zero n = omega arith
value_in (suc room) n = go (ltb n 10) (value_in room (n / 10))
  where
    go : (b : Bool) → value (digits_in room (n / 10)) ≡ n / 10 → value (if b then (48 + n) ∷ [] else (digits_in room (n / 10) ++ ((48 + n % 10) ∷ []))) ≡ n
    go true ih = omega arith
    go false ih = value-append 0 (digits_in room (n / 10)) (48 + n % 10) ∙ (rw ih (omega arith))

pub decimal-value : (n : ℕ) → value (decimal n) ≡ n
unfolding decimal
decimal-value n = value_in n n
