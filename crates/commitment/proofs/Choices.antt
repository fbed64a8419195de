-- The configurations one after the other, as a loop meets them: the first that covers, and the greatest. Assumes nothing.
use Rattle.std.specs.Prelude.{if◌then◌else◌}
use Rattle.std.proofs.Common.{◌≡◌, ℕ, zero, suc, ◌+◌, ◌-◌, ◌<◌, ◌≤◌, true, false, List, ◌∷◌, length, get_or, take, drop, sym, refl, ap, ◌∙◌, add-one, arith, drop_of_length-le, length-take-le, drop-cons, get_or-take}
use lib.Ieee.{Float}
use lib.ListN.{get_or-eq_default}
use Rattle.rules.specs.Configuration.{mask_called}
use Rattle.commitment.specs.declared.configuration.Greatest.{Greatest}
use Rattle.commitment.specs.Choice.{usable_covering_of, greater, first_covering_of, greatest_usable_of}

-- ---- a configuration's mask by its number

pub mask-some : (configs : List ℕ) (called : ℕ) → (called ≡ 0 → ⊥) → get_or configs (called - 1) 0 ≡ mask_called configs called
unfolding mask_called
mask-some configs zero h = absurd (h refl)
mask-some configs (suc j) h = ap (λ (k : ℕ). get_or configs k 0) (let e : suc j - 1 ≡ j = omega arith in e)

pub mask-past : (configs : List ℕ) (called : ℕ) → length configs < called → 0 ≡ mask_called configs called
unfolding mask_called
mask-past configs zero h = absurd (omega arith)
mask-past configs (suc j) h = sym (get_or-eq_default configs 0 {n = j} (omega arith))

-- ---- the first n configurations, of which those before place i were looked at

module _ (caps : List ℕ) (barred : ℕ) (configs : List ℕ) (n i : ℕ) (fits : n ≤ length configs) where
  -- the masks from place i on: the one there, and the rest
  from-here : i < n → drop i (take n configs) ≡ get_or configs i 0 ∷ drop (i + 1) (take n configs)
  from-here k =
      rw add-one (
      drop-cons (take n configs) i 0 (rw (length-take-le n configs fits) k)
      ∙ ap (λ (x : ℕ). x ∷ drop (suc i) (take n configs)) (get_or-take n configs i 0 k)
      )

  none_left : n ≤ i → length (take n configs) ≤ i
  none_left k = rw (length-take-le n configs fits) k

  module _ (held : Float) (whole : ℕ) (from : whole ≡ first_covering_of caps barred held i (drop i (take n configs))) where
    here-or-later : i < n
        → whole ≡ (if usable_covering_of barred held (get_or configs i 0) (get_or caps i 0) then i + 1 else first_covering_of caps barred held (i + 1) (drop (i + 1) (take n configs)))
    unfolding first_covering_of
    here-or-later k = from ∙ ap (first_covering_of caps barred held i) (from-here k) ∙ rw (add-one i)

    pub first-here : i < n → usable_covering_of barred held (get_or configs i 0) (get_or caps i 0) ≡ true → i + 1 ≡ whole
    first-here k e = sym (here-or-later k ∙ rw e)

    pub first-later : i < n → usable_covering_of barred held (get_or configs i 0) (get_or caps i 0) ≡ false
        → whole ≡ first_covering_of caps barred held (i + 1) (drop (i + 1) (take n configs))
    first-later k e = here-or-later k ∙ rw e

    pub first-none : n ≤ i → 0 ≡ whole
    unfolding first_covering_of
    first-none k = sym (from ∙ ap (first_covering_of caps barred held i) (drop_of_length-le (take n configs) (none_left k)))

  module _ (best : Greatest) (whole : ℕ) (from : whole ≡ greatest_usable_of caps barred best i (drop i (take n configs))) where
    pub greatest-turn : (next : Greatest) → i < n → next ≡ greater barred best (get_or configs i 0) (get_or caps i 0) (i + 1)
        → whole ≡ greatest_usable_of caps barred next (i + 1) (drop (i + 1) (take n configs))
    unfolding greatest_usable_of
    greatest-turn next k e = from ∙ ap (greatest_usable_of caps barred best i) (from-here k) ∙ rw (e, add-one i)

    pub greatest-end : n ≤ i → best.number ≡ whole
    unfolding greatest_usable_of
    greatest-end k = sym (from ∙ ap (greatest_usable_of caps barred best i) (drop_of_length-le (take n configs) (none_left k)))
