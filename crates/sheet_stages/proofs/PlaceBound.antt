-- A file has no more lines than bytes, so that the place of its refusal is one that 64 bits hold. Assumes nothing.
use Rattle.std.specs.Prelude.{if◌then◌else◌}
use Prim.Native.Nat.{ℕ, suc, ◌+◌, ◌≤◌, zero-le}
use mathlib.Core.Path.{◌≡◌, refl}
use mathlib.Core.Bool.{Bool, true, false}
use mathlib.Core.List.{List, [], ◌∷◌}
use native.Mathlib.Omega.{arith}
use lib.Dec.{eqb}
use lib.ListN.{length}
use Rattle.rules.specs.Bytes.{LF, in_front, parts}
use Rattle.rules.specs.Lines.{Line, lines_of, lines}
use Rattle.rules.specs.Answers.{Answer, accepted, refused, need, ◌>>=◌, ◌>>◌}
use Rattle.rules.specs.SampleFile.{Sheet, sample_sheet, heading_line, row_values, time_in, later_rows, rows_after, sheet_lines, sample_file}
use Rattle.sheet_stages.specs.ToCome.{most_place, placed}
use Rattle.sheet_stages.proofs.PlaceLaws.{refused-stays, row-place, heading-place}

-- ---- no more lines than bytes

lines-front : (x : ℕ) (ps : List (List ℕ)) → length (lines_of (in_front x ps)) ≤ suc (length (lines_of ps))
unfolding lines_of
lines-front x [] = omega arith
lines-front x (p ∷ []) = omega arith
lines-front x (p ∷ q ∷ r) = omega arith

lines-blank : (ps : List (List ℕ)) → length (lines_of ([] ∷ ps)) ≤ suc (length (lines_of ps))
unfolding lines_of
lines-blank [] = omega arith
lines-blank (p ∷ ps) = omega arith

pub lines-few : (s : List ℕ) → length (lines s) ≤ length s
unfolding lines lines_of parts
lines-few [] = zero-le
lines-few (x ∷ s) = go (eqb x LF) (lines-few s)
  where
    go : (b : Bool) → length (lines_of (parts LF s)) ≤ length s → length (lines_of (if b then [] ∷ parts LF s else in_front x (parts LF s))) ≤ suc (length s)
    go true h = omega (arith, lines-blank (parts LF s))
    go false h = omega (arith, lines-front x (parts LF s))

-- ---- places up to the number of lines

pub stays-bind : {A B : Type 0} (a : Answer A) (f : A → Answer B) → placed a ≡ a → ((x : A) → placed (f x) ≡ f x) → placed (a >>= f) ≡ (a >>= f)
stays-bind (accepted a) f e g = g a
stays-bind (refused number place) f e g = refused-stays number place e

module _ (sheet : Sheet) (columns : List ℕ) where
  later-stays : (ls : List Line) (line last : ℕ) → line + length ls ≤ suc most_place → placed (later_rows sheet columns line last ls) ≡ later_rows sheet columns line last ls
  unfolding later_rows
  later-stays [] line last h = refl
  later-stays (l ∷ ls) line last h =
      let k : line ≤ most_place = omega arith in
      let m : suc line + length ls ≤ suc most_place = omega arith in
      stays-bind (row_values sheet columns line l) _ (row-place sheet columns line l k) (λ values.
      stays-bind (later_rows sheet columns (suc line) _ ls) _ (later-stays ls (suc line) _ m) (λ rows. refl))

  rows_stay : (ls : List Line) → suc (length ls) ≤ most_place → placed (rows_after sheet columns ls) ≡ rows_after sheet columns ls
  unfolding rows_after
  rows_stay [] h = refl
  rows_stay (l ∷ ls) h =
      let k : 2 ≤ most_place = omega arith in
      let m : 3 + length ls ≤ suc most_place = omega arith in
      stays-bind (row_values sheet columns 2 l) _ (row-place sheet columns 2 l k) (λ values.
      first (eqb (time_in values) 0) _ (stays-bind (later_rows sheet columns 3 (time_in values) ls) _ (later-stays ls 3 (time_in values) m) (λ rows. refl)))
    where
      first : (b : Bool) (a : Answer (List (List ℕ))) → placed a ≡ a → placed (need b 21 2 >> a) ≡ (need b 21 2 >> a)
      first true a e = e
      first false a e = refl

sheet-stays : (sheet : Sheet) (ls : List Line) → length ls ≤ most_place → placed (sheet_lines sheet ls) ≡ sheet_lines sheet ls
unfolding sheet_lines
sheet-stays sheet [] h = refl
sheet-stays sheet (l ∷ ls) h = stays-bind (heading_line sheet.names l) _ (heading-place sheet.names l) (λ columns. rows_stay sheet columns ls h)

pub file-place : (s : List ℕ) → length s ≤ most_place → placed (sample_file s) ≡ sample_file s
unfolding sample_file
file-place s h =
    let k : length (lines s) ≤ most_place = omega (arith, lines-few s) in
    stays-bind (sheet_lines sample_sheet (lines s)) _ (sheet-stays sample_sheet (lines s) k) (λ rows. refl)
