-- Document 01, "The sample file": the rows that the bytes of a file give, or the refusal, line by line and cell by cell.
use Rattle.std.specs.Prelude.{ℕ, zero, suc, ◌+◌, ◌-◌, ◌*◌, ◌^◌, Bool, false, not, ◌&&◌, ◌||◌, List, [], ◌∷◌, ◌++◌, map, length, get_or, leb, ltb, eqb, if◌then◌else◌}
use Rattle.rules.specs.declared.samples.Sample.{Sample}
use Rattle.rules.specs.Numbers.{all_to, tab}
use Rattle.rules.specs.Bytes.{point, bytes, same, parts, digits, value}
use Rattle.rules.specs.Lines.{Line, lines, cells_of}
use Rattle.rules.specs.Answers.{Answer, accepted, refused, need, ◌>>=◌, ◌>>◌}

-- What a kind of sheet asks: its headings, the time's first; each one's limit, the time's in s and a power's in W; and
-- whether the values of a row, in the order of the headings, agree with each other (20).
pub record Sheet : Type 0 where
  pub names : List (List ℕ)
  pub limits : List ℕ
  pub agree : List ℕ → Bool

-- "`t` first, then LoadP, PvAvailP, ShedLoadP once each"; "at most 316,223,999"; "at most 50,000 kW"
unfoldable pub sample_sheet : Sheet
sample_sheet =
    record {
      names = bytes "t" ∷ bytes "LoadP" ∷ bytes "PvAvailP" ∷ bytes "ShedLoadP" ∷ [];
      limits = 316_223_999 ∷ 50_000_000 ∷ 50_000_000 ∷ 50_000_000 ∷ [];
      agree = λ values. leb (get_or values 3 0) (get_or values 1 0);
    }

-- ---- the heading line

-- a heading's place among the names, and their number where it is none of them
unfoldable pub name_of : List (List ℕ) → List ℕ → ℕ
name_of [] heading = 0
name_of (n ∷ ns) heading = if same n heading then 0 else suc (name_of ns heading)

unfoldable pub occurs : ℕ → List ℕ → Bool
occurs x [] = false
occurs x (y ∷ ys) = eqb x y || occurs x ys

-- "left to right 12, 13, 14", after the columns that were read; the answer has a name's place for each column
unfoldable pub headings : List (List ℕ) → List ℕ → List (List ℕ) → Answer (List ℕ)
headings names columns [] = accepted columns
headings names columns (h ∷ hs) =
    let name = name_of names h in
    do
      need (ltb 0 (length h)) 12 1
      need (ltb name (length names)) 13 1
      need (not (occurs name columns)) 14 1
      headings names (columns ++ (name ∷ [])) hs

-- "Heading line: 11, 16, left to right 12, 13, 14, then 15."
unfoldable pub heading_line : List (List ℕ) → Line → Answer (List ℕ)
heading_line names l = do
  need (leb l.size 512) 11 1
  need (eqb (name_of names (get_or (cells_of l) 0 [])) 0) 16 1
  columns ← headings names [] (cells_of l)
  need (all_to (length names) (λ name. occurs name columns)) 15 1
  accepted columns

-- ---- cells

-- a cell's value: 18 where it is malformed, before 19 where it is over its limit
abbrev pub limited : ℕ → ℕ → Bool → ℕ → Answer ℕ
limited line limit well_formed v = do
  need well_formed 18 line
  need (leb v limit) 19 line
  accepted v

-- "Time: 1 to 9 digits"
unfoldable pub time_cell : ℕ → ℕ → List ℕ → Answer ℕ
time_cell line limit c = limited line limit (digits 9 c) (value c)

-- "Power in kW: 1 to 6 digits, then nothing or a point and 1 to 3 digits", of the parts between its points
unfoldable pub power_form : List (List ℕ) → Bool
power_form [] = false
power_form (w ∷ []) = digits 6 w
power_form (w ∷ f ∷ []) = digits 6 w && digits 3 f
power_form (w ∷ f ∷ g ∷ r) = false

-- in W
unfoldable pub power_value : List (List ℕ) → ℕ
power_value ps = value (get_or ps 0 []) * 1000 + value (get_or ps 1 []) * 10 ^ (3 - length (get_or ps 1 []))

unfoldable pub power_cell : ℕ → ℕ → List ℕ → Answer ℕ
power_cell line limit c = limited line limit (power_form (parts point c)) (power_value (parts point c))

-- a cell under the heading whose name has this place
unfoldable pub cell : ℕ → List ℕ → ℕ → List ℕ → Answer ℕ
cell line limits zero c = time_cell line (get_or limits 0 0) c
cell line limits (suc name) c = power_cell line (get_or limits (suc name) 0) c

-- "cells left to right 18 before 19": their values, in the file's own order
unfoldable pub cell_values : ℕ → List ℕ → List ℕ → List (List ℕ) → Answer (List ℕ)
cell_values line limits [] cs = accepted []
cell_values line limits (name ∷ columns) [] = accepted []
cell_values line limits (name ∷ columns) (c ∷ cs) = do
  v ← cell line limits name c
  vs ← cell_values line limits columns cs
  accepted (v ∷ vs)

-- the value of the column that has this name
unfoldable pub value_under : ℕ → List ℕ → List ℕ → ℕ
value_under name [] vs = 0
value_under name (c ∷ columns) [] = 0
value_under name (c ∷ columns) (v ∷ vs) = if eqb name c then v else value_under name columns vs

-- ---- rows

-- 20: "sheddable load above load"
abbrev pub agreeing : Sheet → ℕ → List ℕ → Answer (List ℕ)
agreeing sheet line values = do
  need (sheet.agree values) 20 line
  accepted values

-- "Row: 11, 17, cells left to right 18 before 19, then 20"; its values in the order of the names
unfoldable pub row_values : Sheet → List ℕ → ℕ → Line → Answer (List ℕ)
row_values sheet columns line l = do
  need (leb l.size 512) 11 line
  need (eqb (length (cells_of l)) (length columns)) 17 line
  vs ← cell_values line sheet.limits columns (cells_of l)
  agreeing sheet line (tab (length sheet.names) (λ name. value_under name columns vs))

abbrev pub time_in : List ℕ → ℕ
time_in values = get_or values 0 0

-- the rows from this line on, after one that was accepted at the second `last`:
-- "A later row whose time is not above the last accepted one is skipped, after its checks"
unfoldable pub later_rows : Sheet → List ℕ → ℕ → ℕ → List Line → Answer (List (List ℕ))
later_rows sheet columns line last [] = accepted []
later_rows sheet columns line last (l ∷ ls) = do
  values ← row_values sheet columns line l
  rows ← later_rows sheet columns (suc line) (if ltb last (time_in values) then time_in values else last) ls
  accepted (if ltb last (time_in values) then values ∷ rows else rows)

-- 22: "no row"; 21: "first row's time not 0"
unfoldable pub rows_after : Sheet → List ℕ → List Line → Answer (List (List ℕ))
rows_after sheet columns [] = refused 22 0
rows_after sheet columns (l ∷ ls) = do
  values ← row_values sheet columns 2 l
  need (eqb (time_in values) 0) 21 2
  rows ← later_rows sheet columns 3 (time_in values) ls
  accepted (values ∷ rows)

-- 16: "first heading not `t` (an empty file too)"
unfoldable pub sheet_lines : Sheet → List Line → Answer (List (List ℕ))
sheet_lines sheet [] = refused 16 1
sheet_lines sheet (l ∷ ls) = do
  columns ← heading_line sheet.names l
  rows_after sheet columns ls

-- ---- the sample file

abbrev pub sample_of : List ℕ → Sample
sample_of values =
    record { at = get_or values 0 0; load = get_or values 1 0; solar = get_or values 2 0; sheddable = get_or values 3 0 }

unfoldable pub sample_file : List ℕ → Answer (List Sample)
sample_file s = do
  rows ← sheet_lines sample_sheet (lines s)
  accepted (map sample_of rows)

-- "A row holds until the next": the row at second t, of those after the row `now`
unfoldable pub holding : Sample → List Sample → ℕ → Sample
holding now [] t = now
holding now (next ∷ rows) t = if leb next.at t then holding next rows t else now

-- what no accepted file asks for, since it has a row at second 0
abbrev pub before_all : Sample
before_all = record { at = 0; load = 0; solar = 0; sheddable = 0 }

unfoldable pub sample_at : List Sample → ℕ → Sample
sample_at rows t = holding before_all rows t
