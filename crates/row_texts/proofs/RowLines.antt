-- Rows of thirteen numbers as lines, row after row; and the lines of rows' numbers are the rows' text. Assumes nothing.
use Prim.Native.Nat.{ℕ, zero, suc, ◌+◌, ◌*◌, ◌≤◌, ◌<◌}
use mathlib.Core.Path.{◌≡◌, refl, sym, ap, ◌∙◌}
use mathlib.Core.List.{List, [], ◌∷◌, ◌++◌, append_assoc, append-nil}
use native.Mathlib.Omega.{arith}
use lib.ListN.{length, take, drop, length-append, length-take, length-drop}
use lib.Seq.{drop-drop}
use Rattle.rules.specs.declared.run.Row.{Row}
use Rattle.rules.specs.Bytes.{comma_line}
use Rattle.rules.specs.Row.{columns, row_text}
use Rattle.rules.specs.Seconds.{numbers_of}
use Rattle.rows.proofs.RowNumbers.{numbers-length}
use Rattle.row_texts.specs.declared.put_rows.RowsPut.{RowsPut}
use Rattle.row_texts.specs.RowLines.{text_of, lines_of, LinesPut}

-- the row after so many
abbrev pub row_at : ℕ → List ℕ → List ℕ
row_at count numbers = take 13 (drop (13 * count) numbers)

-- a row more
pub lines_more : (count : ℕ) (xs : List ℕ) → lines_of (suc count) xs ≡ lines_of count xs ++ comma_line (row_at count xs)
unfolding lines_of
lines_more zero xs = append-nil (comma_line (take 13 xs))
lines_more (suc count) xs =
    let e : 13 + 13 * count ≡ 13 * suc count = omega arith in
    ap (λ (t : List ℕ). comma_line (take 13 xs) ++ t) (lines_more count (drop 13 xs))
    ∙ sym (append_assoc (comma_line (take 13 xs)) (lines_of count (drop 13 xs)) (comma_line (row_at count (drop 13 xs))))
    ∙ ap (λ (l : List ℕ). (comma_line (take 13 xs) ++ lines_of count (drop 13 xs)) ++ comma_line (take 13 l)) (drop-drop (13 * count) 13 xs ∙ ap (λ (n : ℕ). drop n xs) e)

-- a whole row stands there
pub row-there : (xs : List ℕ) (count : ℕ) → 13 * count + 13 ≤ length xs → length (row_at count xs) ≡ 13
row-there xs count h = simp (length-take, length-drop) (omega arith)

-- more rows have no fewer bytes
lines-least : (few many : ℕ) (xs : List ℕ) → few ≤ many → length (lines_of few xs) ≤ length (lines_of many xs)
unfolding lines_of
lines-least zero many xs h = omega arith
lines-least (suc few) zero xs h = absurd (omega arith)
lines-least (suc few) (suc many) xs h =
    let line = comma_line (take 13 xs) in
    omega (arith, length-append line (lines_of few (drop 13 xs)), length-append line (lines_of many (drop 13 xs)), lines-least few many (drop 13 xs) (omega arith))

-- ---- the numbers of rows

-- THE TEXT OF ROWS: the lines of their numbers, whatever numbers follow
pub lines-are-rows : (rows : List Row) (rest : List ℕ) → lines_of (length rows) (numbers_of rows ++ rest) ≡ text_of rows
unfolding lines_of numbers_of text_of row_text
lines-are-rows [] rest = refl
lines-are-rows (r ∷ rows) rest =
    ap (λ (l : List ℕ). comma_line (take 13 l) ++ lines_of (length rows) (drop 13 l)) (append_assoc (columns r) (numbers_of rows) rest)
    ∙ ap (λ (t : List ℕ). comma_line (columns r) ++ t) (lines-are-rows rows rest)

-- ---- rows that are put where their text has room

module _ (rows : List Row) (lent : List ℕ) (p : RowsPut) (left : List ℕ) (put : LinesPut (numbers_of rows) lent p left) (room : length (text_of rows) ≤ length lent) where
  text-is : lines_of (length rows) (numbers_of rows) ≡ text_of rows
  text-is = ap (lines_of (length rows)) (sym (append-nil (numbers_of rows))) ∙ lines-are-rows rows []

  -- where one was left, its line would have had room
  none_left : p.count < length rows → ⊥
  none_left h =
      let numbers = numbers_of rows in
      let line = comma_line (row_at p.count numbers) in
      let short = put.ends (omega (arith, h, numbers-length rows)) in
      let next : length (lines_of (suc p.count) numbers) ≡ length (lines_of p.count numbers) + length line = ap length (lines_more p.count numbers) ∙ length-append (lines_of p.count numbers) line in
      absurd (omega (arith, short, next, put.front.0, lines-least (suc p.count) (length rows) numbers (omega (arith, h)), ap length text-is, room))

  all-counted : p.count ≡ length rows
  all-counted = omega (arith, put.whole, numbers-length rows, none_left)

-- ALL ARE PUT where their text has room
pub all-put : (rows : List Row) (numbers lent : List ℕ) (p : RowsPut) (left : List ℕ) → LinesPut numbers lent p left → numbers ≡ numbers_of rows → length (text_of rows) ≤ length lent
    → (p.count ≡ length rows) × (p.bytes ≡ length (text_of rows)) × (left ≡ text_of rows ++ drop (length (text_of rows)) lent)
all-put rows numbers lent p left put are room =
    let as_rows = rw are at put in
    let all = all-counted rows lent p left as_rows room in
    let front = rw (all, text-is rows lent p left as_rows room) at as_rows.front in
    (all, front.0, front.1)
