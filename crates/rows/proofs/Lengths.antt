-- The lengths of the lines: none is empty, and each fits in the 256 bytes that a lent buffer has at least (26).
-- Assumes nothing.
use Prim.Native.Nat.{ℕ, ◌^◌, ◌≤◌, ◌<◌}
use mathlib.Core.Path.{◌≡◌, refl}
use mathlib.Core.List.{[], ◌∷◌}
use native.Mathlib.Omega.{arith}
use lib.ListN.{length, take}
use Rattle.rules.specs.declared.run.Row.{Row}
use Rattle.rules.specs.declared.run.SetState.{SetState}
use Rattle.rules.specs.Bytes.{bytes}
use Rattle.rules.specs.Row.{columns, row_text, row_heading, set_heading, refusal_line}
use Rattle.rules.proofs.LittleEndian.{AllBelow}
use Rattle.decimals.specs.Commaed.{commaed}
use Rattle.decimals.proofs.Lines.{line-length}
use Rattle.decimals.proofs.Lengths.{comma-line-least, comma-line-most, shorter-most}
use Rattle.rows.specs.SetLine.{set_columns, set_line}

-- ---- a row

-- all its numbers but the last two, the configuration called and the store, have 32 bits
pub row-most : (r : Row) → AllBelow (2 ^ 32) (take 11 (columns r)) → r.call < 2 ^ 64 → r.store < 2 ^ 64 → length (row_text r) ≤ 163
unfolding row_text
row-most r h c s =
    omega (arith, line-length (columns r) (omega arith), shorter-most (take 11 (columns r)) (r.call ∷ r.store ∷ []) h (c, (s, tt)))

-- and its first eight
pub first-most : (r : Row) → AllBelow (2 ^ 32) (take 8 (columns r)) → length (commaed (take 8 (columns r))) ≤ 88
first-most r h = omega (arith, shorter-most (take 8 (columns r)) [] h tt)

-- ---- the two headings

pub row-heading-length : length row_heading ≡ 71
unfolding row_heading bytes
row-heading-length = refl

pub set-heading-length : length set_heading ≡ 33
unfolding set_heading bytes
set-heading-length = refl

-- ---- a set's line

pub set-line-least : (number : ℕ) (s : SetState) → 1 ≤ length (set_line number s)
unfolding set_line
set-line-least number s = comma-line-least (set_columns number s)

pub set-line-most : (number : ℕ) (s : SetState) → AllBelow (2 ^ 64) (set_columns number s) → length (set_line number s) ≤ 256
unfolding set_line
set-line-most number s h = omega (arith, comma-line-most (set_columns number s) (omega arith) h)

-- ---- a refusal

pub refusal-least : (number place : ℕ) → 1 ≤ length (refusal_line number place)
unfolding refusal_line bytes
refusal-least number place = omega arith

pub refusal-most : (number place : ℕ) → number < 2 ^ 64 → place < 2 ^ 64 → length (refusal_line number place) ≤ 256
unfolding refusal_line bytes
refusal-most number place h k = omega (arith, comma-line-most (number ∷ place ∷ []) (omega arith) (h, (k, tt)))
