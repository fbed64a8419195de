-- The rows of an accepted sample file are right: every power is at most 50,000 kW, and the sheddable load is not above the load. Assumes
-- nothing.
use Rattle.std.specs.Prelude.{if◌then◌else◌}
use Prim.Native.Nat.{ℕ, zero, suc, ◌≤◌}
use mathlib.Core.Path.{◌≡◌, refl, sym, subst}
use mathlib.Core.Bool.{Bool, true, false}
use mathlib.Core.List.{List, [], ◌∷◌, map}
use native.Mathlib.Omega.{arith}
use lib.Dec.{leb, ltb, eqb}
use lib.ListN.{length, get_or}
use borrow.Author.Tests.{leb-true, eqb-true}
use Rattle.rules.specs.declared.samples.Sample.{Sample}
use Rattle.rules.specs.Numbers.{tab}
use Rattle.rules.specs.Bytes.{point, digits, value, parts}
use Rattle.rules.specs.Lines.{Line, lines, cells_of}
use Rattle.rules.specs.Answers.{Answer, accepted, need, ◌>>=◌, ◌>>◌}
use Rattle.rules.specs.SampleFile.{sample_sheet, limited, time_cell, power_form, power_value, power_cell, cell, cell_values, value_under, agreeing, row_values, time_in, later_rows, rows_after, heading_line, sheet_lines, sample_of, sample_file, holding, before_all, sample_at}
use Rattle.rules.proofs.Checks.{not-accepted, passed, bound, same-value}

-- ---- what is right

pub record RowRight (x : Sample) : Type 0 where
  pub load : x.load ≤ 50000000
  pub solar : x.solar ≤ 50000000
  pub sheddable : x.sheddable ≤ 50000000
  pub agrees : x.sheddable ≤ x.load

pub data RowsRight : List Sample → Type 0 where
  none : RowsRight []
  more : {x : Sample} {rows : List Sample} → RowRight x → RowsRight rows → RowsRight (x ∷ rows)

-- ---- cells: "at most 50,000 kW"

limited-le : (line limit : ℕ) (form : Bool) (v w : ℕ) → limited line limit form v ≡ accepted w → w ≤ limit
limited-le line limit form v w e =
    let p = passed form 18 line (need (leb v limit) 19 line >> accepted v) w e in
    let q = passed (leb v limit) 19 line (accepted v) w p.1 in
    subst (λ (n : ℕ). n ≤ limit) (same-value v w q.1) (leb-true v limit q.0)

cell-le : (line : ℕ) (limits : List ℕ) (name : ℕ) (c : List ℕ) (v : ℕ) → cell line limits name c ≡ accepted v → v ≤ get_or limits name 0
unfolding cell time_cell power_cell
cell-le line limits zero c v e = limited-le line (get_or limits 0 0) (digits 9 c) (value c) v e
cell-le line limits (suc name) c v e = limited-le line (get_or limits (suc name) 0) (power_form (parts point c)) (power_value (parts point c)) v e

-- the value of the column that has a name is within that name's limit
under-le : (line : ℕ) (limits : List ℕ) (name : ℕ) (columns : List ℕ) (cs : List (List ℕ)) (vs : List ℕ) → cell_values line limits columns cs ≡ accepted vs → value_under name columns vs ≤ get_or limits name 0
unfolding cell_values value_under
under-le line limits name [] cs vs e = omega arith
under-le line limits name (c ∷ columns) [] vs e = subst (λ (l : List ℕ). value_under name (c ∷ columns) l ≤ get_or limits name 0) (same-value [] vs e) (omega arith)
under-le line limits name (c ∷ columns) (x ∷ cs) vs e =
    let b = bound (cell line limits c x) _ vs e in
    let d = bound (cell_values line limits columns cs) _ vs b.2 in
    subst (λ (l : List ℕ). value_under name (c ∷ columns) l ≤ get_or limits name 0) (same-value (b.0 ∷ d.0) vs d.2) (go b.0 d.0 (cell-le line limits c x b.0 b.1) (under-le line limits name columns cs d.0 d.1) (eqb name c) refl)
  where
    go : (v : ℕ) (ws : List ℕ) → v ≤ get_or limits c 0 → value_under name columns ws ≤ get_or limits name 0 → (b : Bool) → eqb name c ≡ b → (if b then v else value_under name columns ws) ≤ get_or limits name 0
    go v ws h k true is = subst (λ (n : ℕ). v ≤ get_or limits n 0) (sym (eqb-true name c is)) h
    go v ws h k false is = k

-- ---- rows

pub row-right : (columns : List ℕ) (line : ℕ) (l : Line) (values : List ℕ) → row_values sample_sheet columns line l ≡ accepted values → RowRight (sample_of values)
unfolding row_values sample_sheet tab
row-right columns line l values e =
    let tested : List ℕ → Answer (List ℕ) = λ vs. agreeing sample_sheet line (tab 4 (λ (name : ℕ). value_under name columns vs)) in
    let cells : Answer (List ℕ) = cell_values line sample_sheet.limits columns (cells_of l) >>= tested in
    let p = passed (leb l.size 512) 11 line (need (eqb (length (cells_of l)) (length columns)) 17 line >> cells) values e in
    let q = passed (eqb (length (cells_of l)) (length columns)) 17 line cells values p.1 in
    let b = bound (cell_values line sample_sheet.limits columns (cells_of l)) tested values q.1 in
    let under : (name : ℕ) → ℕ = λ name. value_under name columns b.0 in
    let d = passed (leb (under 3) (under 1)) 20 line (accepted (under 0 ∷ under 1 ∷ under 2 ∷ under 3 ∷ [])) values b.2 in
    let le : (name : ℕ) → under name ≤ get_or sample_sheet.limits name 0 = λ name. under-le line sample_sheet.limits name columns (cells_of l) b.0 b.1 in
    subst (λ (vs : List ℕ). RowRight (sample_of vs)) (same-value (under 0 ∷ under 1 ∷ under 2 ∷ under 3 ∷ []) values d.1) (record { load = le 1; solar = le 2; sheddable = le 3; agrees = leb-true (under 3) (under 1) d.0 })

pub later-right : (columns : List ℕ) (line last : ℕ) (ls : List Line) (rows : List (List ℕ)) → later_rows sample_sheet columns line last ls ≡ accepted rows → RowsRight (map sample_of rows)
unfolding later_rows
later-right columns line last [] rows e = subst (λ (l : List (List ℕ)). RowsRight (map sample_of l)) (same-value [] rows e) RowsRight.none
later-right columns line last (l ∷ ls) rows e =
    let b = bound (row_values sample_sheet columns line l) _ rows e in
    let d = bound (later_rows sample_sheet columns (suc line) _ ls) _ rows b.2 in
    subst (λ (l : List (List ℕ)). RowsRight (map sample_of l)) (same-value _ rows d.2) (go (ltb last (time_in b.0)) b.0 d.0 (row-right columns line l b.0 b.1) (later-right columns (suc line) _ ls d.0 d.1))
  where
    go : (b : Bool) (values : List ℕ) (rows : List (List ℕ)) → RowRight (sample_of values) → RowsRight (map sample_of rows) → RowsRight (map sample_of (if b then values ∷ rows else rows))
    go true values rows h k = RowsRight.more h k
    go false values rows h k = k

pub after-right : (columns : List ℕ) (ls : List Line) (rows : List (List ℕ)) → rows_after sample_sheet columns ls ≡ accepted rows → RowsRight (map sample_of rows)
unfolding rows_after
after-right columns [] rows e = not-accepted 22 0 rows e
after-right columns (l ∷ ls) rows e =
    let b = bound (row_values sample_sheet columns 2 l) _ rows e in
    let p = passed (eqb (time_in b.0) 0) 21 2 _ rows b.2 in
    let d = bound (later_rows sample_sheet columns 3 (time_in b.0) ls) _ rows p.1 in
    subst (λ (l : List (List ℕ)). RowsRight (map sample_of l)) (same-value _ rows d.2) (RowsRight.more (row-right columns 2 l b.0 b.1) (later-right columns 3 (time_in b.0) ls d.0 d.1))

pub sheet-right : (ls : List Line) (rows : List (List ℕ)) → sheet_lines sample_sheet ls ≡ accepted rows → RowsRight (map sample_of rows)
unfolding sheet_lines
sheet-right [] rows e = not-accepted 16 1 rows e
sheet-right (l ∷ ls) rows e =
    let b = bound (heading_line sample_sheet.names l) _ rows e in
    after-right b.0 ls rows b.2

-- ---- "A row holds until the next"

pub head-right : {x : Sample} {rows : List Sample} → RowsRight (x ∷ rows) → RowRight x
head-right (RowsRight.more h k) = h

pub tail-right : {x : Sample} {rows : List Sample} → RowsRight (x ∷ rows) → RowsRight rows
tail-right (RowsRight.more h k) = k

pub holding-right : (now : Sample) (rows : List Sample) (t : ℕ) → RowRight now → RowsRight rows → RowRight (holding now rows t)
unfolding holding
holding-right now [] t h k = h
holding-right now (x ∷ rows) t h k = go (leb x.at t) (holding-right x rows t (head-right k) (tail-right k))
  where
    go : (b : Bool) → RowRight (holding x rows t) → RowRight (if b then holding x rows t else now)
    go true r = r
    go false r = h

-- what each second of an accepted sample file is handed
pub sample-right : (s : List ℕ) (rows : List Sample) → sample_file s ≡ accepted rows → (t : ℕ) → RowRight (sample_at rows t)
unfolding sample_file sample_at
sample-right s rows e t =
    let b = bound (sheet_lines sample_sheet (lines s)) _ rows e in
    let right : RowsRight rows = subst RowsRight (same-value (map sample_of b.0) rows b.2) (sheet-right (lines s) b.0 b.1) in
    holding-right before_all rows t (record { load = omega arith; solar = omega arith; sheddable = omega arith; agrees = omega arith }) right
