-- A line of decimal numbers reads back: its parts between commas are the numbers' digits, and its LF ends it. Assumes nothing.
use Rattle.std.specs.Prelude.{if◌then◌else◌}
use Prim.Native.Nat.{ℕ, zero, suc, ◌+◌, ◌/◌, ◌%◌, ◌<◌}
use mathlib.Core.Path.{◌≡◌, refl, sym, ap, ◌∙◌}
use mathlib.Core.Bool.{Bool, true, false, not}
use mathlib.Core.List.{List, [], ◌∷◌, ◌++◌, map, append_assoc}
use native.Mathlib.Omega.{arith}
use lib.Dec.{leb, ltb, eqb}
use borrow.Author.Tests.{leb-true, le-leb, eq-eqb, ne_eqb}
use Rattle.rules.specs.Numbers.{every}
use Rattle.rules.specs.Bytes.{LF, comma, digits_in, decimal, comma_line, value, parts}
use Rattle.rules.proofs.Tests.{both, every_append}
use Rattle.rules.proofs.Parts.{without}
use Rattle.rules.proofs.Decimals.{decimal-value}

-- ---- every byte of a number's digits is at or past the digit 0, so none is a comma or LF

abbrev digital : List ℕ → Bool
digital s = every (λ x. leb 48 x) s

digits-digital : (room n : ℕ) → digital (digits_in room n) ≡ true
unfolding digits_in every
digits-digital zero n = rw (le-leb 48 (48 + n) (omega arith))
digits-digital (suc room) n = go (ltb n 10) (digits-digital room (n / 10))
  where
    go : (b : Bool) → digital (digits_in room (n / 10)) ≡ true → digital (if b then (48 + n) ∷ [] else digits_in room (n / 10) ++ ((48 + n % 10) ∷ [])) ≡ true
    go true h = rw (le-leb 48 (48 + n) (omega arith))
    go false h = every_append (λ x. leb 48 x) (digits_in room (n / 10)) ((48 + n % 10) ∷ []) h (rw (le-leb 48 (48 + n % 10) (omega arith)))

digital-without : (c : ℕ) (s : List ℕ) → c < 48 → digital s ≡ true → without c s ≡ true
unfolding every
digital-without c [] l h = refl
digital-without c (x ∷ s) l h =
    let t = both (leb 48 x) (digital s) h in
    rw (ne_eqb x c (λ e. omega (arith, leb-true 48 x t.0)), digital-without c s l t.1)

decimal-without : (c n : ℕ) → c < 48 → without c (decimal n) ≡ true
unfolding decimal
decimal-without c n l = digital-without c (digits_in n n) l (digits-digital n n)

-- ---- parts

not-true : (b : Bool) → not b ≡ true → b ≡ false
not-true true e = sym e
not-true false e = refl

-- a part that the byte ends, and the last
pub part-ended : (c : ℕ) (p s : List ℕ) → without c p ≡ true → parts c (p ++ (c ∷ s)) ≡ p ∷ parts c s
unfolding parts every
part-ended c [] s h = rw (eq-eqb c c refl)
part-ended c (x ∷ p) s h =
    let t = both (not (eqb x c)) (without c p) h in
    rw (not-true (eqb x c) t.0, part-ended c p s t.1)

pub part-last : (c : ℕ) (p : List ℕ) → without c p ≡ true → parts c p ≡ p ∷ []
unfolding parts every
part-last c [] h = refl
part-last c (x ∷ p) h =
    let t = both (not (eqb x c)) (without c p) h in
    rw (not-true (eqb x c) t.0, part-last c p t.1)

-- ---- a line of numbers, without its LF

unfoldable pub line_of : ℕ → List ℕ → List ℕ
line_of x [] = decimal x
line_of x (y ∷ r) = decimal x ++ (comma ∷ line_of y r)

pub line-ended : (x : ℕ) (r : List ℕ) → comma_line (x ∷ r) ≡ line_of x r ++ (LF ∷ [])
unfolding comma_line line_of
line-ended x [] = refl
line-ended x (y ∷ r) = rw (line-ended y r, append_assoc)

line-without : (x : ℕ) (r : List ℕ) → without LF (line_of x r) ≡ true
unfolding line_of every
line-without x [] = decimal-without LF x (omega arith)
line-without x (y ∷ r) = every_append (λ z. not (eqb z LF)) (decimal x) (comma ∷ line_of y r) (decimal-without LF x (omega arith)) (line-without y r)

-- it is the first line of a text that begins with it
pub line_first : (x : ℕ) (r rest : List ℕ) → parts LF (comma_line (x ∷ r) ++ rest) ≡ line_of x r ∷ parts LF rest
line_first x r rest =
    rw (line-ended x r, append_assoc (line_of x r) (LF ∷ []) rest) (part-ended LF (line_of x r) rest (line-without x r))

-- its numbers
pub line-numbers : (x : ℕ) (r : List ℕ) → map (λ cell. value cell) (parts comma (line_of x r)) ≡ x ∷ r
unfolding line_of
line-numbers x [] =
    ap (map (λ cell. value cell)) (part-last comma (decimal x) (decimal-without comma x (omega arith))) ∙ ap (λ (n : ℕ). n ∷ []) (decimal-value x)
line-numbers x (y ∷ r) =
    ap (map (λ cell. value cell)) (part-ended comma (decimal x) (line_of y r) (decimal-without comma x (omega arith))) ∙ rw (decimal-value x, line-numbers y r)
