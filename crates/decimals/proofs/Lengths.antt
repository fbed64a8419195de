-- The lengths of lines of numbers: none is empty, and a number of 64 bits takes at most 21 bytes, one of 32 bits at most 11.
-- Assumes nothing.
use Prim.Native.Nat.{ℕ, suc, ◌+◌, ◌*◌, ◌^◌, ◌≤◌, ◌<◌}
use mathlib.Core.List.{List, [], ◌∷◌, ◌++◌}
use native.Mathlib.Omega.{arith}
use lib.ListN.{length, get_or, length-append}
use Rattle.rules.specs.Bytes.{LF, comma, decimal, comma_line}
use Rattle.rules.proofs.LittleEndian.{AllBelow}
use Rattle.rules.proofs.Decimals.{digits-32, digits-64}
use Rattle.decimals.specs.Commaed.{ended, commaed}
use Rattle.decimals.proofs.Lines.{length-ended, line-length}

pub comma-line-least : (xs : List ℕ) → 1 ≤ length (comma_line xs)
unfolding comma_line
comma-line-least [] = omega arith
comma-line-least (x ∷ []) = omega (arith, length-append (decimal x) (LF ∷ []))
comma-line-least (x ∷ y ∷ xs) = omega (arith, length-append (decimal x) (comma ∷ comma_line (y ∷ xs)))

-- numbers of 64 bits, each with its comma
pub commaed-most : (xs : List ℕ) → AllBelow (2 ^ 64) xs → length (commaed xs) ≤ 21 * length xs
unfolding commaed
commaed-most [] h = omega arith
commaed-most (x ∷ xs) h =
    omega (arith, length-append (ended x comma) (commaed xs), length-ended x comma, digits-64 x h.0, commaed-most xs h.1)

-- and numbers of 32 bits before them
pub shorter-most : (xs ys : List ℕ) → AllBelow (2 ^ 32) xs → AllBelow (2 ^ 64) ys → length (commaed (xs ++ ys)) ≤ 11 * length xs + 21 * length ys
unfolding commaed
shorter-most [] ys h k = omega (arith, commaed-most ys k)
shorter-most (x ∷ xs) ys h k =
    omega (arith, length-append (ended x comma) (commaed (xs ++ ys)), length-ended x comma, digits-32 x h.0, shorter-most xs ys h.1 k)

pub comma-line-most : (xs : List ℕ) → 1 ≤ length xs → AllBelow (2 ^ 64) xs → length (comma_line xs) ≤ 21 * length xs
comma-line-most xs n h = omega (arith, line-length xs n, commaed-most xs h)

-- numbers that a slice holds
pub all-below : (n : ℕ) (xs : List ℕ) → ((i : ℕ) → get_or xs i 0 < n) → AllBelow n xs
all-below n [] h = tt
all-below n (x ∷ xs) h = (h 0, all-below n xs (λ i. h (suc i)))
