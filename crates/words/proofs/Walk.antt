-- The walk over a mask's sets: the first place from one on is where the mask has a set and none before it, so the walk starts at
-- the first set, goes up, and misses none. Assumes nothing.
use Rattle.std.specs.Prelude.{if◌then◌else◌, None, Some}
use Prim.Native.Nat.{ℕ, zero, suc, ◌+◌, ◌-◌, ◌/◌, ◌%◌, ◌^◌, ◌≤◌, ◌<◌, zero-le}
use mathlib.Core.Path.{◌≡◌, refl, sym, ap, ◌∙◌}
use mathlib.Core.Bool.{Bool, true, false}
use mathlib.Core.Logic.{◌⊎◌, inl, inr}
use native.Mathlib.Omega.{arith}
use native.Mathlib.Nat.{eq-or-lt_of_le, lt_of_not-le, lt_of_le_of_lt, le_refl, mod-lt, zero-div, zero-lt-suc}
use lib.Count.{count_trailing_zeros}
use lib.Pow.{field, mod-mod-pow, shr-shr, shr_le}
use borrow.Author.Tests.{eq-eqb}
use Rattle.rules.specs.Numbers.{has}
use Rattle.rules.proofs.Tests.{never}
use Rattle.rules.proofs.Tables.{has-beyond}
use Rattle.words.specs.declared.masks.Places.{Places}
use Rattle.words.specs.Masks.{first_from, next_set}
use Rattle.words.specs.Places.{Walks}
use Rattle.words.proofs.Zeros.{zeros-below, one-there}

-- where a walk is: at a set of the mask, or at the end
pub record Place (mask i : ℕ) : Type 0 where
  pub range : i ≤ 8
  pub here : i < 8 → has mask i ≡ true

module _ (mask : ℕ) where
  -- ---- the first set among d places

  -- it is the one with none before it
  first-is : (i d r : ℕ) → i ≤ r → r ≤ i + d → ((k : ℕ) → i ≤ k → k < r → has mask k ≡ false)
      → (r ≡ i + d) ⊎ (has mask r ≡ true) → r ≡ first_from mask i d
  unfolding first_from
  first-is i zero r l u none ends = omega arith
  first-is i (suc d) r l u none ends =
      go (λ k e. first-is (suc i) d r k (omega arith) (λ j a b. none j (omega arith) b) e) (eq-or-lt_of_le l) ends (has mask i) refl
    where
      go : (suc i ≤ r → (r ≡ suc i + d) ⊎ (has mask r ≡ true) → r ≡ first_from mask (suc i) d)
          → (i ≡ r) ⊎ (i < r) → (r ≡ i + suc d) ⊎ (has mask r ≡ true) → (b : Bool) → has mask i ≡ b → r ≡ (if b then i else first_from mask (suc i) d)
      go ih (inl z) x true e = sym z
      go ih (inr z) x true e = never (sym (none i (le_refl i) z) ∙ e)
      go ih (inl z) (inl x) false e = absurd (omega arith)
      go ih (inl z) (inr x) false e = never (sym e ∙ ap (has mask) z ∙ x)
      go ih (inr z) (inl x) false e = ih (omega arith) (inl (omega arith))
      go ih (inr z) (inr x) false e = ih (omega arith) (inr x)

  first_range : (i d : ℕ) → (i ≤ first_from mask i d) × (first_from mask i d ≤ i + d)
  unfolding first_from
  first_range i zero = omega arith
  first_range i (suc d) = go (has mask i) (first_range (suc i) d)
    where
      go : (b : Bool) → (suc i ≤ first_from mask (suc i) d) × (first_from mask (suc i) d ≤ suc i + d)
          → (i ≤ (if b then i else first_from mask (suc i) d)) × ((if b then i else first_from mask (suc i) d) ≤ i + suc d)
      go true h = omega arith
      go false h = omega arith

  first-has : (i d : ℕ) → first_from mask i d < i + d → has mask (first_from mask i d) ≡ true
  unfolding first_from
  first-has i zero h = absurd (omega arith)
  first-has i (suc d) h = go (λ k. first-has (suc i) d k) (has mask i) refl h
    where
      go : (first_from mask (suc i) d < suc i + d → has mask (first_from mask (suc i) d) ≡ true)
          → (b : Bool) → has mask i ≡ b → (if b then i else first_from mask (suc i) d) < i + suc d → has mask (if b then i else first_from mask (suc i) d) ≡ true
      go ih true e k = e
      go ih false e k = ih (omega arith)

  first-none : (i d k : ℕ) → i ≤ k → k < first_from mask i d → has mask k ≡ false
  unfolding first_from
  first-none i zero k l h = absurd (omega arith)
  first-none i (suc d) k l h = go (λ a b. first-none (suc i) d k a b) (eq-or-lt_of_le l) (has mask i) refl h
    where
      go : (suc i ≤ k → k < first_from mask (suc i) d → has mask k ≡ false)
          → (i ≡ k) ⊎ (i < k) → (b : Bool) → has mask i ≡ b → k < (if b then i else first_from mask (suc i) d) → has mask k ≡ false
      go ih z true e x = absurd (omega arith)
      go ih (inl z) false e x = ap (has mask) (sym z) ∙ e
      go ih (inr z) false e x = ih z x

  -- ---- the next set, of eight places

  pub next_past : (i : ℕ) → 8 ≤ i → i ≡ next_set mask i
  unfolding next_set first_from
  next_past i h = let e : 8 - i ≡ 0 = omega arith in rw e

  -- between the places i and the next set the mask has none
  pub between : (i k : ℕ) → i ≤ k → k < next_set mask i → has mask k ≡ false
  unfolding next_set
  between i k l h = first-none i (8 - i) k l h

  -- the walk starts at a place, and goes from each to a later one
  pub place : (i : ℕ) → i ≤ 8 → Place mask (next_set mask i)
  unfolding next_set
  place i h = record { range = omega (arith, first_range i (8 - i)); here = λ k. first-has i (8 - i) (omega arith) }

  pub next-from : (i : ℕ) → i ≤ next_set mask i
  unfolding next_set
  next-from i = (first_range i (8 - i)).0

  pub forward : (i r : ℕ) → r ≡ next_set mask i → i ≤ r
  forward i r e = rw e (next-from i)

  -- ---- the next set by trailing zeros

  -- the mask has at a place what its low byte, shifted to an earlier place, has there
  low_byte : (i k : ℕ) → i ≤ k → k < 8 → has mask k ≡ has (mask % 256 / 2 ^ i) (k - i)
  low_byte i k l h =
      let e : i + (k - i) ≡ k = omega arith in
      let w : 8 - k + k ≡ 8 = omega arith in
      let v : 7 - k + 1 ≡ 8 - k = omega arith in
      let shifted : mask % 256 / 2 ^ i / 2 ^ (k - i) ≡ mask % 256 / 2 ^ k = shr-shr (mask % 256) i (k - i) ∙ ap (λ (x : ℕ). mask % 256 / 2 ^ x) e in
      let digits : mask % 256 / 2 ^ k ≡ mask / 2 ^ k % 2 ^ (8 - k) = ap (λ (x : ℕ). mask % 2 ^ x / 2 ^ k) (sym w) ∙ field mask (8 - k) k in
      let one : mask / 2 ^ k % 2 ^ (8 - k) % 2 ≡ mask / 2 ^ k % 2 = ap (λ (x : ℕ). mask / 2 ^ k % 2 ^ x % 2) (sym v) ∙ mod-mod-pow (mask / 2 ^ k) (7 - k) 1 in
      rw (shifted, digits, one)

  pub next-none : (i : ℕ) → i ≤ 8 → mask % 256 / 2 ^ i ≡ 0 → 8 ≡ next_set mask i
  unfolding next_set
  next-none i h z = first-is i (8 - i) 8 h (omega arith) (λ k a b. low_byte i k a b ∙ rw (z, zero-div (2 ^ (k - i)))) (inl (omega arith))

  pub next-some : (i : ℕ) → i ≤ 8 → (mask % 256 / 2 ^ i ≡ 0 → ⊥) → i + count_trailing_zeros 32 (mask % 256 / 2 ^ i) ≡ next_set mask i
  unfolding next_set
  next-some i h nz = first-is i (8 - i) (i + z) (omega arith) (omega (arith, inside)) none (inr (low_byte i (i + z) (omega arith) inside ∙ rw back there))
    where
      low : ℕ
      low = mask % 256

      z : ℕ
      z = count_trailing_zeros 32 (low / 2 ^ i)

      back : i + z - i ≡ z
      back = omega arith

      small : low < 256
      small = mod-lt mask (zero-lt-suc 255)

      there : has (low / 2 ^ i) z ≡ true
      there = eq-eqb (low / 2 ^ i / 2 ^ z % 2) 1 (one-there 32 (low / 2 ^ i) (omega (arith, nz)) (lt_of_le_of_lt (shr_le low i) (omega (arith, small))))

      inside : i + z < 8
      inside = lt_of_not-le (λ (l : 8 ≤ i + z). never (sym (has-beyond 8 low (i + z) small l) ∙ rw (← shr-shr low i z) there))

      none : (k : ℕ) → i ≤ k → k < i + z → has mask k ≡ false
      none k a b = low_byte i k a (omega (arith, inside)) ∙ rw (zeros-below 32 (low / 2 ^ i) (k - i) (omega arith))

-- ---- a walk as a loop goes it: before each turn it stands at a place of the mask, and looks for the next set from there on

module _ (mask : ℕ) where
  pub record Standing (walk : Places) : Type 0 where
    pub same : walk.mask ≡ mask
    pub range : walk.from ≤ 8

  pub standing-start : Standing (record { mask = mask; from = 0 })
  standing-start = record { same = refl; range = zero-le }

  -- a turn: the set that it came to, and where the walk stands then
  pub record Turned (walk next : Places) (i : ℕ) : Type 0 where
    pub here : i ≡ next_set mask walk.from
    pub at : Place mask i
    pub inside : i < 8
    pub standing : Standing next
    pub on : next_set mask next.from ≡ next_set mask (i + 1)

  pub turn : {walk : Places} (next : Places) {i : ℕ} → Standing walk → Walks walk (Some i) next → Turned walk next i
  turn {walk} next {i} now (same, (here, inside, from)) =
      let it : i ≡ next_set mask walk.from = here ∙ ap (λ (m : ℕ). next_set m walk.from) now.same in
      record {
        here = it;
        at = rw it (place mask walk.from now.range);
        inside = inside;
        standing = record { same = same ∙ now.same; range = omega arith };
        on = ap (next_set mask) from;
      }

  pub walk_over : {walk : Places} (next : Places) → Standing walk → Walks walk None next → 8 ≤ next_set mask walk.from
  walk_over {walk} next now (same, none) = rw now.same at none
