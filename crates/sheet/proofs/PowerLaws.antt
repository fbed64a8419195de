-- Laws of a power's cell: its form and its value from what stands before the first point and what stands after it. Assumes nothing.
use Rattle.std.specs.Prelude.{if◌then◌else◌, None, Option}
use Prim.Native.Nat.{ℕ, suc, ◌+◌, ◌-◌, ◌*◌, ◌^◌, ◌<◌}
use mathlib.Core.Path.{◌≡◌, refl, sym, ◌∙◌}
use mathlib.Core.Bool.{Bool, true, false, ◌&&◌}
use mathlib.Core.List.{List, [], ◌∷◌}
use native.Mathlib.Omega.{arith}
use native.Mathlib.Decide.{dec_lt}
use native.Mathlib.Nat.{add-zero, zero-add}
use native.Mathlib.Numerals.{add-one}
use lib.Dec.{eqb}
use lib.ListN.{length, take, drop, length-drop}
use lib.Seq.{take_all, take-length}
use borrow.Author.Tests.{eqb-true}
use Rattle.byte_search.specs.Bytes.{index_after, index_of, slice}
use Rattle.rules.specs.Numbers.{within}
use Rattle.rules.specs.Bytes.{point, is_digit, all_digits, digits, value_from, value, in_front, parts}
use Rattle.rules.specs.SampleFile.{power_form, power_value}
use Rattle.sheet.specs.Digits.{formed}
use Rattle.sheet_headings.proofs.PartsAt.{index-le, part-last, part-first}

and-false : (a : Bool) → a && false ≡ false
and-false true = refl
and-false false = refl

-- a point is no digit
point-undigited : (s : List ℕ) → index_of point s < length s → all_digits s ≡ false
unfolding all_digits index_of index_after
point-undigited [] h = absurd (omega arith)
point-undigited (x ∷ s) h = go (eqb x point) refl (point-undigited s) h
  where
    go : (b : Bool) → eqb x point ≡ b → (index_of point s < length s → all_digits s ≡ false) → index_after b (index_of point s) < suc (length s)
        → is_digit x && all_digits s ≡ false
    go true e rest h = rw (eqb-true x point e)
    go false e rest h = rw (rest (omega arith)) (and-false (is_digit x))

point-formless : (n : ℕ) (s : List ℕ) → index_of point s < length s → digits n s ≡ false
unfolding digits
point-formless n s h = rw (point-undigited s h) (and-false (within 1 n (length s)))

-- two points are no form of a power
points-formless : (w f s : List ℕ) → power_form (w ∷ f ∷ parts point s) ≡ false
unfolding power_form parts
points-formless w f [] = refl
points-formless w f (x ∷ s) = go (eqb x point) (parts point s)
  where
    go : (b : Bool) (ps : List (List ℕ)) → power_form (w ∷ f ∷ (if b then [] ∷ ps else in_front x ps)) ≡ false
    go true ps = refl
    go false [] = refl
    go false (p ∷ ps) = refl

-- what the parts between the points come to
abbrev pub watts : List (List ℕ) → Option ℕ
watts ps = formed (power_form ps) (power_value ps)

-- what the whole kW and what follows the first point come to
abbrev pub decimal_watts : List ℕ → List ℕ → Option ℕ
decimal_watts w d = formed (digits 6 w && digits 3 d) (value w * 1000 + value d * 10 ^ (3 - length d))

watts-decimals : (w d : List ℕ) → watts (w ∷ parts point d) ≡ decimal_watts w d
unfolding power_form power_value
watts-decimals w d = go (dec_lt (index_of point d) (length d))
  where
    go : Dec (index_of point d < length d) → watts (w ∷ parts point d) ≡ decimal_watts w d
    go (yes k) = rw (part-first point d k, points-formless, point-formless 3 d k, and-false)
    go (no k) = rw (part-last point d (omega (arith, k, index-le point d)))

-- the place that the search finds
pub point_at : (s : List ℕ) → 0 + index_of point (slice 0 (length s) s) ≡ index_of point s
unfolding slice
point_at s = rw (zero-add, take-length)

module _ (s : List ℕ) (end : ℕ) (at : end ≡ index_of point s) where
  pub power-whole : end ≡ length s → watts (parts point s) ≡ formed (digits 6 (take end s)) (value (take end s) * 1000)
  unfolding power_form power_value value_from
  power-whole h = rw (part-last point s (sym at ∙ h), h, take-length, add-zero)

  pub power-decimals : end < length s → watts (parts point s) ≡ decimal_watts (take end s) (take (length s - (end + 1)) (drop (end + 1) s))
  power-decimals h =
      let rest = take_all (length s - suc end) (drop (suc end) s) (omega (arith, length-drop (suc end) s)) in
      rw (add-one, rest, part-first point s (rw at at h), ← at) (watts-decimals (take end s) (drop (suc end) s))

  pub power-none : digits 6 (take end s) ≡ false → watts (parts point s) ≡ None
  power-none h = go (dec_lt end (length s))
    where
      go : Dec (end < length s) → watts (parts point s) ≡ None
      go (yes k) = power-decimals k ∙ rw h
      go (no k) = power-whole (omega (arith, k, at, index-le point s)) ∙ rw h
