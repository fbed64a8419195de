-- Laws of texts of digits: one digit more, how large their numbers are, and what an answer says of the text. Assumes nothing.
use Rattle.std.specs.Prelude.{Some, None, Option}
use Prim.Native.Nat.{ℕ, suc, ◌+◌, ◌-◌, ◌*◌, ◌^◌, ◌≤◌, ◌<◌}
use mathlib.Core.Path.{◌≡◌, refl}
use mathlib.Core.Bool.{Bool, true, false}
use mathlib.Core.List.{List, [], ◌∷◌}
use native.Mathlib.Omega.{arith}
use native.Mathlib.Nat.{add-zero, zero-add, pow-suc, pow-le-pow_right, lt_of_lt_of_le}
use native.Mathlib.Numerals.{add-one}
use lib.ListN.{length, drop, get_or, drop_of_length-le}
use lib.Seq.{drop-cons}
use borrow.Author.Tests.{le-leb, lt-leb}
use Rattle.rules.specs.Numbers.{within}
use Rattle.rules.specs.Bytes.{digit0, is_digit, all_digits, digits, value_from, value}
use Rattle.rules.proofs.Tests.{both, within-fact, fact-within}
use Rattle.sheet.specs.Digits.{formed}

-- ---- what an answer says

pub formed-number : (form : Bool) (v w : ℕ) → Some w ≡ formed form v → (form ≡ true) × (w ≡ v)
formed-number true v w h = (refl, cc)
formed-number false v w h = absurd (let z : ◌≡◌ {A = ℕ} 0 1 = cc in omega arith)

pub formed-none : (form : Bool) (v : ℕ) → None ≡ formed form v → form ≡ false
formed-none true v h = absurd (let z : ◌≡◌ {A = ℕ} 0 1 = cc in omega arith)
formed-none false v h = refl

-- ---- "1 to n digits", one after the other

-- what a text comes to whose digits before s have the value v
abbrev pub to_read : ℕ → List ℕ → Option ℕ
to_read v s = formed (all_digits s) (value_from v s)

module _ (most : ℕ) (s : List ℕ) where
  pub read_short : length s < 1 → None ≡ formed (digits most s) (value s)
  unfolding digits
  read_short h = rw (lt-leb 1 (length s) h)

  module _ (some : 1 ≤ length s) where
    pub read-long : most < length s → None ≡ formed (digits most s) (value s)
    unfolding digits
    read-long h = rw (le-leb 1 (length s) some, lt-leb (length s) most h)

    pub read_first : length s ≤ most → formed (digits most s) (value s) ≡ to_read 0 s
    unfolding digits
    read_first h = rw (fact-within 1 most (length s) some h)

module _ (s : List ℕ) (i v : ℕ) where
  pub read-end : length s ≤ i → to_read v (drop i s) ≡ Some v
  unfolding all_digits value_from
  read-end h = rw (drop_of_length-le s h)

  module _ (h : i < length s) where
    pub read-other : is_digit (get_or s i 0) ≡ false → to_read v (drop i s) ≡ None
    unfolding all_digits value_from
    read-other d = rw (drop-cons s i 0 h, d)

    pub read-digit : is_digit (get_or s i 0) ≡ true → to_read v (drop i s) ≡ to_read (v * 10 + (get_or s i 0 - 48)) (drop (i + 1) s)
    unfolding all_digits value_from
    read-digit d = rw (add-one i, drop-cons s i 0 h, d)

-- ---- how large a number of n digits is

pub below_more : (n v d : ℕ) → v < 10 ^ n → d < 10 → v * 10 + d < 10 ^ suc n
below_more n v d h k = rw pow-suc (omega arith)

pub below-most : (n most v : ℕ) → n ≤ most → v < 10 ^ n → v < 10 ^ most
below-most n most v h l = lt_of_lt_of_le l (pow-le-pow_right (omega arith) h)

pub from-below : (s : List ℕ) (n v : ℕ) → v < 10 ^ n → all_digits s ≡ true → value_from v s < 10 ^ (n + length s)
unfolding all_digits value_from
from-below [] n v h all = rw add-zero h
from-below (x ∷ s) n v h all =
    let t = both (is_digit x) (all_digits s) all in
    let d = within-fact digit0 (digit0 + 9) x t.0 in
    let e : n + length (x ∷ s) ≡ suc n + length s = omega arith in
    rw e (from-below s (suc n) (v * 10 + (x - digit0)) (below_more n v (x - digit0) h (omega (arith, d.0, d.1))) t.1)

pub digits-below : (most : ℕ) (s : List ℕ) → digits most s ≡ true → value s < 10 ^ most
unfolding digits
digits-below most s h =
    let t = both (within 1 most (length s)) (all_digits s) h in
    below-most (length s) most (value s) (within-fact 1 most (length s) t.0).1 (rw zero-add at (from-below s 0 0 (omega arith) t.1))

-- ---- what a number that was read says of its text

pub record Read (most : ℕ) (s : List ℕ) (v : ℕ) : Type 0 where
  pub form : digits most s ≡ true
  pub is : v ≡ value s
  pub below : v < 10 ^ most

pub read_is : (most : ℕ) (s : List ℕ) (v : ℕ) → Some v ≡ formed (digits most s) (value s) → Read most s v
read_is most s v h =
    let t = formed-number (digits most s) (value s) v h in
    record { form = t.0; is = t.1; below = rw t.1 (digits-below most s t.0) }
