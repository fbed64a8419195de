-- A loop that carries the weight of its place's bit builds the mask of the places with p, place by place. Assumes nothing.
use Prim.Native.Nat.{ℕ, zero, suc, ◌+◌, ◌*◌, ◌^◌, ◌≤◌, ◌<◌}
use mathlib.Core.Path.{◌≡◌, refl}
use mathlib.Core.Bool.{Bool, true, false}
use native.Mathlib.Omega.{arith}
use native.Mathlib.Nat.{pow-suc}
use native.Mathlib.Numerals.{add-one}
use lib.Pow.{pow_mono}
use Rattle.rules.specs.Numbers.{mask_of}
use Rattle.rules.proofs.Masks.{mask_below}

-- before place i the mask has the places below it, and the weight is that of the place's bit
pub record Built (p : ℕ → Bool) (i weight mask : ℕ) : Type 0 where
  pub range : i ≤ 8
  pub of-place : weight ≡ 2 ^ i
  pub of_places : mask ≡ mask_of i p

module _ (p : ℕ → Bool) where
  pub built-start : Built p 0 1 0
  unfolding mask_of
  built-start = record { range = omega arith; of-place = refl; of_places = refl }

  module _ (i weight mask : ℕ) (b : Built p i weight mask) where
    pub built-small : (weight ≤ 256) × (mask < 256)
    built-small =
        let w : 2 ^ i ≤ 256 = pow_mono b.range in
        (omega (arith, b.of-place), omega (arith, b.of_places, mask_below i p))

    -- one place more, with its bit or without
    pub built-with : i < 8 → p i ≡ true → Built p (i + 1) (weight * 2) (mask + weight)
    unfolding mask_of
    built-with h e = record {
      range = omega arith;
      of-place = rw (b.of-place, add-one i, pow-suc);
      of_places = rw (b.of-place, b.of_places, add-one i, e);
    }

    pub built-without : i < 8 → p i ≡ false → Built p (i + 1) (weight * 2) mask
    unfolding mask_of
    built-without h e = record {
      range = omega arith;
      of-place = rw (b.of-place, add-one i, pow-suc);
      of_places = rw (b.of_places, add-one i, e) (omega arith);
    }

    pub built-end : 8 ≤ i → (mask ≡ mask_of 8 p) × (mask < 256)
    built-end h = let e : i ≡ 8 = omega (arith, b.range) in (rw e at b.of_places, built-small.1)

-- the same places make the same mask
pub same-mask : (p q : ℕ → Bool) (n : ℕ) → ((i : ℕ) → i < n → p i ≡ q i) → mask_of n p ≡ mask_of n q
unfolding mask_of
same-mask p q zero h = refl
same-mask p q (suc n) h = rw (same-mask p q n (λ i l. h i (omega arith)), h n (omega arith))
