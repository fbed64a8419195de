-- A row's line, number after number, as the code writes it. Assumes nothing.
use Prim.Native.Nat.{ℕ, zero, suc, ◌+◌, ◌≤◌, ◌<◌}
use mathlib.Core.Path.{◌≡◌, refl, sym, ap, ◌∙◌}
use mathlib.Core.List.{List, [], ◌∷◌, ◌++◌, append_assoc, append-nil}
use native.Mathlib.Omega.{arith}
use native.Mathlib.Numerals.{add-one}
use lib.ListN.{length, take, get_or, length-append}
use lib.Seq.{take-suc, take_all}
use Rattle.rules.specs.Bytes.{LF, comma, decimal, comma_line}
use Rattle.decimals.specs.Commaed.{ended, commaed, line_of}

pub length-ended : (number after : ℕ) → length (ended number after) ≡ length (decimal number) + 1
unfolding ended
length-ended number after = length-append (decimal number) (after ∷ [])

-- ---- the line as the code writes it

commaed-append : (xs ys : List ℕ) → commaed (xs ++ ys) ≡ commaed xs ++ commaed ys
unfolding commaed
commaed-append [] ys = refl
commaed-append (x ∷ xs) ys = rw (commaed-append xs ys, append_assoc)

-- one number more
commaed-step : (xs : List ℕ) (i : ℕ) → i < length xs → commaed (take (i + 1) xs) ≡ commaed (take i xs) ++ ended (get_or xs i 0) comma
unfolding commaed
commaed-step xs i h =
    rw (add-one i, take-suc xs i 0 h) (commaed-append (take i xs) (get_or xs i 0 ∷ []) ∙ ap (λ (t : List ℕ). commaed (take i xs) ++ t) (append-nil (ended (get_or xs i 0) comma)))

-- and so after a text that stands before them
pub commaed-on : (before xs : List ℕ) (i : ℕ) → i < length xs → (before ++ commaed (take i xs)) ++ ended (get_or xs i 0) comma ≡ before ++ commaed (take (i + 1) xs)
commaed-on before xs i h =
    append_assoc before (commaed (take i xs)) (ended (get_or xs i 0) comma) ∙ ap (λ (t : List ℕ). before ++ t) (sym (commaed-step xs i h))

-- the last number, with LF after it
line-ends : (xs : List ℕ) (x : ℕ) → comma_line (xs ++ (x ∷ [])) ≡ commaed xs ++ ended x LF
unfolding comma_line commaed ended
line-ends [] x = refl
line-ends (y ∷ []) x = simp append_assoc
line-ends (y ∷ z ∷ xs) x = simp (line-ends (z ∷ xs) x, append_assoc)

pub line-last : (xs : List ℕ) (i : ℕ) → i + 1 ≡ length xs → comma_line xs ≡ commaed (take i xs) ++ ended (get_or xs i 0) LF
line-last xs i e =
    let whole : take (suc i) xs ≡ xs = take_all (suc i) xs (omega arith) in
    ap comma_line (sym whole ∙ take-suc xs i 0 (omega arith)) ∙ line-ends (take i xs) (get_or xs i 0)

-- a line in two parts
pub line-parts : (xs ys : List ℕ) → 1 ≤ length ys → comma_line (xs ++ ys) ≡ commaed xs ++ comma_line ys
unfolding comma_line commaed ended
line-parts [] ys h = refl
line-parts (x ∷ []) [] h = absurd (omega arith)
line-parts (x ∷ []) (y ∷ ys) h = simp append_assoc
line-parts (x ∷ z ∷ xs) ys h = simp (line-parts (z ∷ xs) ys h, append_assoc)

-- where there are numbers, their line is one
pub line-some : (xs : List ℕ) → 1 ≤ length xs → line_of xs ≡ comma_line xs
unfolding line_of
line-some [] h = absurd (omega arith)
line-some (x ∷ xs) h = refl

pub line-none : (xs : List ℕ) → length xs ≡ 0 → line_of xs ≡ []
unfolding line_of
line-none [] e = refl
line-none (x ∷ xs) e = absurd (omega (arith, e))

-- ---- the line's length

-- LF takes the last comma's place
length-line : (x : ℕ) (xs : List ℕ) → length (comma_line (x ∷ xs)) ≡ length (commaed (x ∷ xs))
unfolding comma_line commaed
length-line x [] = omega (arith, length-append (decimal x) (LF ∷ []), length-append (ended x comma) [], length-ended x comma)
length-line x (y ∷ xs) =
    omega (arith, length-append (decimal x) (comma ∷ comma_line (y ∷ xs)), length-append (ended x comma) (commaed (y ∷ xs)), length-ended x comma, length-line y xs)

pub line-length : (xs : List ℕ) → 1 ≤ length xs → length (comma_line xs) ≡ length (commaed xs)
line-length [] h = absurd (omega arith)
line-length (x ∷ xs) h = length-line x xs

-- each number and its comma lie within the numbers so written
pub within : (xs : List ℕ) (i : ℕ) → i < length xs → length (commaed (take i xs)) + length (decimal (get_or xs i 0)) < length (commaed xs)
unfolding commaed
within [] i h = absurd (omega arith)
within (x ∷ xs) zero h = omega (arith, length-append (ended x comma) (commaed xs), length-ended x comma)
within (x ∷ xs) (suc i) h =
    omega (arith, length-append (ended x comma) (commaed (take i xs)), length-append (ended x comma) (commaed xs), within xs i (omega arith))

-- each number and the byte after it lie within the line
pub line-room : (xs : List ℕ) (i : ℕ) → i < length xs → length (commaed (take i xs)) + length (decimal (get_or xs i 0)) < length (comma_line xs)
line-room xs i h = omega (arith, within xs i h, line-length xs (omega arith))

-- the lengths, one number more
pub length-step : (xs : List ℕ) (i : ℕ) → i < length xs → length (commaed (take (i + 1) xs)) ≡ length (commaed (take i xs)) + (length (decimal (get_or xs i 0)) + 1)
length-step xs i h =
    omega (arith, ap length (commaed-step xs i h), length-append (commaed (take i xs)) (ended (get_or xs i 0) comma), length-ended (get_or xs i 0) comma)
