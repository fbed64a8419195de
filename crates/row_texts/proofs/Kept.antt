-- A row's line whose last five numbers are those of the row before: their text stands in the buffer already. Assumes nothing.
use Prim.Native.Nat.{ℕ, zero, suc, ◌+◌, ◌-◌, ◌*◌, ◌≤◌, min}
use mathlib.Core.Path.{◌≡◌, refl, sym, ap, ◌∙◌}
use mathlib.Core.Bool.{Bool, true}
use mathlib.Core.List.{List, [], ◌++◌, append_assoc}
use native.Mathlib.Omega.{arith}
use lib.ListN.{length, take, drop, length-append, length-take, length-drop, take-append-drop}
use lib.Seq.{drop-drop, drop_at, take_at, take-add, drop-append-le}
use Rattle.rules.specs.Bytes.{comma_line}
use Rattle.decimals.specs.Commaed.{commaed}
use Rattle.texts.specs.Placed.{Front, placed}
use Rattle.row_texts.specs.RowLines.{lines_of, Puttable}
use Rattle.decimals.proofs.Lines.{line-parts}
use Rattle.row_texts.proofs.RowLines.{row_at, lines_more, row-there}

-- ---- a line of thirteen numbers in two parts

module _ (row : List ℕ) (thirteen : length row ≡ 13) where
  pub ends-length : length (drop 8 row) ≡ 5
  ends-length = omega (arith, length-drop 8 row)

  pub halves : comma_line row ≡ commaed (take 8 row) ++ comma_line (drop 8 row)
  halves = ap comma_line (sym (take-append-drop 8 row)) ∙ line-parts (take 8 row) (drop 8 row) (omega (arith, ends-length))

  pub halves-length : length (comma_line row) ≡ length (commaed (take 8 row)) + length (comma_line (drop 8 row))
  halves-length = ap length halves ∙ length-append (commaed (take 8 row)) (comma_line (drop 8 row))

-- ---- what stands before a text that is put

length_taken : (l : List ℕ) (at : ℕ) → at ≤ length l → length (take at l) ≡ at
length_taken l at h = length-take at l ∙ (let m : min at (length l) ≡ at = omega arith in m)

-- the bytes from a place up to the end of a front
up-to-front : (front rest : List ℕ) (from size : ℕ) → from + size ≡ length front → take size (drop from (front ++ rest)) ≡ drop from front
up-to-front front rest from size e =
    rw (drop-append-le from front rest (omega arith)) (take_at (drop from front) rest size (omega (arith, length-drop from front)))

module _ {row : List ℕ} {alike : Bool} {kept at : ℕ} {out : List ℕ} (h : Puttable row alike kept at out) where
  within : at ≤ length out
  within = omega (arith, h.room)

  between : kept + (at - kept) ≡ length (take at out)
  between = omega (arith, h.before, length_taken out at within)

  module _ (told : alike ≡ true) where
    pub text-length : at - kept ≡ length (comma_line (drop 8 row))
    text-length = omega (arith, h.before, within, ap length (h.stands told), length-take (at - kept) (drop kept out), length-drop kept out)

    -- it stands there after the first eight numbers are put, too
    pub text-stands : (b t : List ℕ) → b ≡ placed out at t → take (at - kept) (drop kept b) ≡ comma_line (drop 8 row)
    text-stands b t e =
        ap (λ (s : List ℕ). take (at - kept) (drop kept s)) e
        ∙ up-to-front (take at out) (t ++ drop (length t) (drop at out)) kept (at - kept) between
        ∙ sym (up-to-front (take at out) (drop at out) kept (at - kept) between)
        ∙ ap (λ (s : List ℕ). take (at - kept) (drop kept s)) (take-append-drop at out)
        ∙ h.stands told

-- ---- the lines so far, up to the last row's last five numbers

pub up_to_ends : ℕ → List ℕ → List ℕ
up_to_ends zero xs = []
up_to_ends (suc count) xs = lines_of count xs ++ commaed (take 8 (row_at count xs))

pub nothing-kept : (xs : List ℕ) → 0 ≡ length (up_to_ends 0 xs)
unfolding up_to_ends
nothing-kept xs = refl

module _ (xs : List ℕ) (count : ℕ) (there : 13 * count + 13 ≤ length xs) where
  lines_split : lines_of (suc count) xs ≡ up_to_ends (suc count) xs ++ comma_line (drop 8 (row_at count xs))
  unfolding up_to_ends
  lines_split =
      lines_more count xs
      ∙ ap (λ (t : List ℕ). lines_of count xs ++ t) (halves (row_at count xs) (row-there xs count there))
      ∙ sym (append_assoc (lines_of count xs) (commaed (take 8 (row_at count xs))) (comma_line (drop 8 (row_at count xs))))

  -- a row's last five numbers, where they stand
  ends_at : drop 8 (row_at count xs) ≡ take 5 (drop (13 * count + 8) xs)
  ends_at =
      let ys = drop (13 * count) xs in
      ap (drop 8) (take-add 8 5 ys)
      ∙ drop_at (take 8 ys) (take 5 (drop 8 ys)) 8 (length_taken ys 8 (omega (arith, length-drop (13 * count) xs)))
      ∙ ap (take 5) (drop-drop 8 (13 * count) xs)

  pub kept_next : (bytes kept : ℕ) → bytes ≡ length (lines_of count xs) → kept ≡ bytes + length (commaed (take 8 (row_at count xs))) → kept ≡ length (up_to_ends (suc count) xs)
  unfolding up_to_ends
  kept_next bytes kept e f = omega (arith, e, f, length-append (lines_of count xs) (commaed (take 8 (row_at count xs))))

-- no more than the lines
pub kept-before : (xs : List ℕ) (count : ℕ) → 13 * count ≤ length xs → length (up_to_ends count xs) ≤ length (lines_of count xs)
unfolding up_to_ends lines_of
kept-before xs zero h = omega arith
kept-before xs (suc count) h =
    let there : 13 * count + 13 ≤ length xs = omega arith in
    omega (arith, ap length (lines_split xs count there), length-append (up_to_ends (suc count) xs) (comma_line (drop 8 (row_at count xs))))

-- THE TEXT STANDS where a row ends as the row before it does
pub kept-stands : (xs lent out : List ℕ) (count bytes kept : ℕ) → 13 * count + 13 ≤ length xs → Front lent (lines_of count xs) bytes out → kept ≡ length (up_to_ends count xs)
    → 13 ≤ 13 * count → take 5 (drop (13 * count + 8) xs) ≡ take 5 (drop (13 * count - 5) xs) → take (bytes - kept) (drop kept out) ≡ comma_line (drop 8 (row_at count xs))
kept-stands xs lent out zero bytes kept there f e least same = absurd (omega arith)
kept-stands xs lent out (suc count) bytes kept there f e least same =
    let before : 13 * count + 13 ≤ length xs = omega arith in
    let front = up_to_ends (suc count) xs in
    let end = comma_line (drop 8 (row_at count xs)) in
    let split = lines_split xs count before in
    let sum : kept + (bytes - kept) ≡ length (lines_of (suc count) xs) = omega (arith, e, f.0, ap length split, length-append front end) in
    let place : 13 * count + 8 ≡ 13 * suc count - 5 = omega arith in
    ap (λ (s : List ℕ). take (bytes - kept) (drop kept s)) f.1
    ∙ up-to-front (lines_of (suc count) xs) (drop (length (lines_of (suc count) xs)) lent) kept (bytes - kept) sum
    ∙ ap (drop kept) split
    ∙ drop_at front end kept (sym e)
    ∙ ap comma_line (ends_at xs count before ∙ ap (λ (n : ℕ). take 5 (drop n xs)) place ∙ sym same ∙ sym (ends_at xs (suc count) there))
