-- The sum of a weight f over a mask's sets, along the walk: at the first set it is 0, each turn adds the weight of the set it
-- leaves, and at the end it is the whole sum. Assumes nothing.
use Rattle.std.specs.Prelude.{if◌then◌else◌}
use Prim.Native.Nat.{ℕ, zero, suc, ◌+◌, ◌-◌, ◌*◌, ◌/◌, ◌%◌, ◌^◌, ◌≤◌, ◌<◌, zero-le}
use mathlib.Core.Path.{◌≡◌, refl, sym, ap, ◌∙◌}
use mathlib.Core.Bool.{true, false}
use native.Mathlib.Omega.{arith}
use native.Mathlib.Nat.{add-le-add, suc-mul, lt_of_not-le, le_refl, div-one, mod-lt, zero-lt-suc, div-eq_of_lt}
use native.Mathlib.Numerals.{add-one}
use lib.Dec.{eqb}
use lib.Count.{ones, ones_step}
use lib.Pow.{shr-shr}
use Rattle.rules.specs.Numbers.{has, sum_to}
use Rattle.rules.proofs.Tests.{choice}
use Rattle.words.specs.Masks.{next_set}
use Rattle.words.proofs.Walk.{Place, between, next-from, place}

-- the weights of the mask's sets among the first n places
abbrev pub weighed : (ℕ → ℕ) → ℕ → ℕ → ℕ
weighed f mask n = sum_to n (λ i. if has mask i then f i else 0)

module _ (f : ℕ → ℕ) (mask : ℕ) where
  -- ---- place by place

  pub weighed-has : (i : ℕ) → has mask i ≡ true → weighed f mask (suc i) ≡ weighed f mask i + f i
  unfolding sum_to
  weighed-has i e = rw e

  pub weighed-not : (i : ℕ) → has mask i ≡ false → weighed f mask (suc i) ≡ weighed f mask i
  unfolding sum_to
  weighed-not i e = rw e (omega arith)

  weighed-none : (a n : ℕ) → ((k : ℕ) → a ≤ k → k < a + n → has mask k ≡ false) → weighed f mask (a + n) ≡ weighed f mask a
  weighed-none a zero none = let e : a + 0 ≡ a = omega arith in rw e
  weighed-none a (suc n) none =
      let e : a + suc n ≡ suc (a + n) = omega arith in
      rw e (weighed-not (a + n) (none (a + n) (omega arith) (omega arith)) ∙ weighed-none a n (λ k l h. none k l (omega arith)))

  -- ---- along the walk

  to-next : (i : ℕ) → weighed f mask (next_set mask i) ≡ weighed f mask i
  to-next i =
      let e : i + (next_set mask i - i) ≡ next_set mask i = omega (arith, next-from mask i) in
      ap (weighed f mask) (sym e) ∙ weighed-none i (next_set mask i - i) (λ k a h. between mask i k a (omega arith))

  pub walk_start : weighed f mask (next_set mask 0) ≡ 0
  unfolding sum_to
  walk_start = to-next 0

  pub walk_turn : (i : ℕ) → Place mask i → i < 8 → weighed f mask (next_set mask (i + 1)) ≡ weighed f mask i + f i
  walk_turn i p h = to-next (i + 1) ∙ rw (add-one i) (weighed-has i (p.here h))

  pub walk_end : (i : ℕ) → Place mask i → 8 ≤ i → weighed f mask i ≡ weighed f mask 8
  walk_end i p h = let e : i ≡ 8 = omega (arith, p.range) in rw e

  -- ---- how much there can be

  pub weighed-rises : (a n : ℕ) → weighed f mask a ≤ weighed f mask (a + n)
  unfolding sum_to
  weighed-rises a zero = let e : a + 0 ≡ a = omega arith in rw e (le_refl (weighed f mask a))
  weighed-rises a (suc n) =
      let e : a + suc n ≡ suc (a + n) = omega arith in
      rw e (omega (arith, weighed-rises a n))

  pub weighed-most : (m : ℕ) → ((i : ℕ) → f i ≤ m) → (n : ℕ) → weighed f mask n ≤ n * m
  unfolding sum_to
  weighed-most m most zero = zero-le
  weighed-most m most (suc n) = rw suc-mul (add-le-add (weighed-most m most n) (choice (λ (x : ℕ). x ≤ m) (has mask n) (f n) 0 (λ e. most n) (λ e. zero-le)))

-- ---- the number of sets

module _ (mask : ℕ) where
  counted : (n : ℕ) → ones mask ≡ weighed (λ i. 1) mask n + ones (mask / 2 ^ n)
  unfolding sum_to
  counted zero = rw div-one (omega arith)
  counted (suc n) =
      let e : suc n ≡ n + 1 = omega arith in
      let next : mask / 2 ^ n / 2 ≡ mask / 2 ^ suc n = shr-shr mask n 1 ∙ ap (λ (x : ℕ). mask / 2 ^ x) (sym e) in
      let step : ones (mask / 2 ^ n) ≡ mask / 2 ^ n % 2 + ones (mask / 2 ^ suc n) = ones_step (mask / 2 ^ n) ∙ rw next in
      omega (arith, counted n, step, digit (mask / 2 ^ n % 2) (mod-lt (mask / 2 ^ n) (zero-lt-suc 1)))
    where
      digit : (d : ℕ) → d < 2 → d ≡ (if eqb d 1 then 1 else 0)
      digit zero h = refl
      digit (suc zero) h = refl
      digit (suc (suc d)) h = absurd (omega arith)

  pub ones-weighed : mask < 256 → ones mask ≡ weighed (λ i. 1) mask 8
  unfolding ones
  ones-weighed h = let e : mask / 256 ≡ 0 = div-eq_of_lt h in omega (arith, rw e at (counted 8))

  -- a mask of one set: it is the walk's first place
  module _ (small : mask < 256) (one : ones mask ≡ 1) where
    pub one-set-inside : next_set mask 0 < 8
    one-set-inside = lt_of_not-le (λ (l : 8 ≤ next_set mask 0).
        omega (arith, one, ones-weighed small, walk_start (λ i. 1) mask, walk_end (λ i. 1) mask (next_set mask 0) (place mask 0 zero-le) l))

    -- so nothing but its weight is in the sum
    pub one-set-weighed : (f : ℕ → ℕ) → weighed f mask 8 ≡ f (next_set mask 0)
    one-set-weighed f =
        sym (walk_end f mask next (place mask (p + 1) (omega (arith, inside))) ended)
        ∙ walk_turn f mask p (place mask 0 zero-le) inside
        ∙ rw (walk_start f mask) (omega arith)
      where
        p : ℕ
        p = next_set mask 0

        next : ℕ
        next = next_set mask (p + 1)

        inside : p < 8
        inside = one-set-inside

        -- a second set would make the count 2
        ended : 7 < next
        ended = lt_of_not-le (λ (l : next ≤ 7).
            let e : next_set mask (next + 1) + (8 - next_set mask (next + 1)) ≡ 8 = omega (arith, (place mask (next + 1) (omega arith)).range) in
            omega (
              arith,
              one,
              ones-weighed small,
              walk_start (λ i. 1) mask,
              walk_turn (λ i. 1) mask p (place mask 0 zero-le) inside,
              walk_turn (λ i. 1) mask next (place mask (p + 1) (omega (arith, inside))) (omega arith),
              rw e at (weighed-rises (λ i. 1) mask (next_set mask (next + 1)) (8 - next_set mask (next + 1))),
            ))
