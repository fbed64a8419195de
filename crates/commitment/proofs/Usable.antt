-- A configuration is usable where its mask shares no bit with the mask of the barred sets: the definition asks it place by
-- place. Assumes nothing.
use Rattle.std.proofs.Common.{◌≡◌, ℕ, zero, suc, ◌/◌, ◌%◌, ◌^◌, ◌<◌, ◌≤◌, min, Bool, true, false, not, ◌&&◌, ◌||◌, eqb, ltb, List, sym, refl, ap, ◌∙◌, lt_of_le_of_lt, mod-lt, mod-eq_of_lt, zero-lt-suc, div-lt_iff_lt-mul, pow-suc, le-div_iff_mul-le, arith, pow_pos, ne_eqb}
use native.Mathlib.Decide.{dec_lt}
use native.Mathlib.Nat.{mul-add-mod_self_right}
use lib.Bits.{bit_and, and_step, and_shr, and_le_r}
use Rattle.rules.specs.declared.station.GenSet.{GenSet}
use Rattle.rules.specs.declared.run.SetState.{SetState}
use Rattle.rules.specs.Numbers.{has, all_to, mask_of}
use Rattle.rules.specs.Configuration.{usable}
use Rattle.rules.proofs.Tables.{has-beyond}
use Rattle.rules.proofs.Masks.{mask_below, mask-has}
use Rattle.modes.specs.Barred.{barred, barred_mask}
use Rattle.commitment.specs.Choice.{usable_of}

-- ---- bit by bit

digit : (x y : ℕ) → x < 2 → y < 2 → eqb (min x y) 1 ≡ eqb x 1 && eqb y 1
digit zero zero h l = refl
digit zero (suc zero) h l = refl
digit zero (suc (suc y)) h l = absurd (omega arith)
digit (suc zero) zero h l = refl
digit (suc zero) (suc zero) h l = refl
digit (suc zero) (suc (suc y)) h l = absurd (omega arith)
digit (suc (suc x)) y h l = absurd (omega arith)

last-digit : (a b : ℕ) → bit_and a b % 2 ≡ min (a % 2) (b % 2)
last-digit a b =
    ap (λ (x : ℕ). x % 2) (and_step a b)
    ∙ mul-add-mod_self_right (bit_and (a / 2) (b / 2)) 2 (min (a % 2) (b % 2))
    ∙ mod-eq_of_lt (omega (arith, mod-lt a (zero-lt-suc 1)))

has_both : (a b i : ℕ) → has (bit_and a b) i ≡ has a i && has b i
has_both a b i =
    ap (λ (x : ℕ). eqb (x % 2) 1) (and_shr a b i)
    ∙ ap (λ (x : ℕ). eqb x 1) (last-digit (a / 2 ^ i) (b / 2 ^ i))
    ∙ digit (a / 2 ^ i % 2) (b / 2 ^ i % 2) (mod-lt (a / 2 ^ i) (zero-lt-suc 1)) (mod-lt (b / 2 ^ i) (zero-lt-suc 1))

-- a mask of n places is 0 where it has none of them
none_has : (n mask : ℕ) → mask < 2 ^ n → all_to n (λ i. not (has mask i)) ≡ eqb mask 0
unfolding all_to
none_has zero mask h = let e : mask ≡ 0 = omega arith in rw e
none_has (suc n) mask h = go (none_has n mask) (dec_lt mask (2 ^ n))
  where
    go : (mask < 2 ^ n → all_to n (λ i. not (has mask i)) ≡ eqb mask 0) → Dec (mask < 2 ^ n)
        → all_to n (λ i. not (has mask i)) && not (has mask n) ≡ eqb mask 0
    go before (yes l) = rw (before l, has-beyond n mask n l (omega arith)) (and_last (eqb mask 0))
      where
        and_last : (b : Bool) → b && true ≡ b
        and_last true = refl
        and_last false = refl
    go before (no l) =
        let low : 1 ≤ mask / 2 ^ n = (le-div_iff_mul-le {x = 1} (pow_pos n)).1 (omega (arith, l)) in
        let high : mask / 2 ^ n < 2 = (div-lt_iff_lt-mul {y = 2} (pow_pos n)).1 (omega (arith, pow-suc 2 n)) in
        let one : mask / 2 ^ n ≡ 1 = omega arith in
        rw one (and_none (all_to n (λ i. not (has mask i))) ∙ sym (ne_eqb mask 0 (λ z. omega (arith, l, z, pow_pos n))))
      where
        and_none : (b : Bool) → b && false ≡ false
        and_none true = refl
        and_none false = refl

-- ---- place by place

same-all : (n : ℕ) (p q : ℕ → Bool) → ((i : ℕ) → i < n → p i ≡ q i) → all_to n p ≡ all_to n q
unfolding all_to
same-all zero p q e = refl
same-all (suc n) p q e = rw (same-all n p q (λ i l. e i (omega arith)), e n (omega arith))

not-both : (a b : Bool) → not (a && b) ≡ not a || not b
not-both true b = refl
not-both false b = refl

-- two masks, one of n places: no bit of both
pub none-shared : (n a b : ℕ) (p : ℕ → Bool) → b < 2 ^ n → ((i : ℕ) → i < n → has b i ≡ p i)
    → eqb (bit_and a b) 0 ≡ all_to n (λ i. not (has a i) || not (p i))
none-shared n a b p h e =
    sym (none_has n (bit_and a b) (lt_of_le_of_lt (and_le_r a b) h))
    ∙ same-all n (λ i. not (has (bit_and a b) i)) (λ i. not (has a i) || not (p i)) (λ i l.
    ap not (has_both a b i) ∙ not-both (has a i) (has b i) ∙ ap (λ (x : Bool). not (has a i) || not x) (e i l))

pub usable-mask : (sets : List GenSet) (states : List SetState) (mask bars : ℕ) → bars ≡ barred_mask sets states → usable_of bars mask ≡ usable sets states mask
unfolding usable_of usable barred_mask barred
usable-mask sets states mask bars e =
    rw e (ap (λ (x : Bool). ltb 0 mask && x) (none-shared 8 mask (mask_of 8 (barred sets states)) (barred sets states) (mask_below 8 (barred sets states)) (mask-has (barred sets states) 8)))
