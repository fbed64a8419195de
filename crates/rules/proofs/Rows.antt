-- Document 01, "A later row whose time is not above the last accepted one is skipped": the rows of an accepted sheet begin at
-- second 0, and each is later than the one before it that was accepted. Assumes nothing.
use Rattle.std.specs.Prelude.{if◌then◌else◌}
use Prim.Native.Nat.{ℕ, suc, ◌<◌}
use mathlib.Core.Path.{◌≡◌, refl, subst}
use mathlib.Core.Bool.{Bool, true, false}
use mathlib.Core.List.{List, [], ◌∷◌, map}
use native.Mathlib.Omega.{arith}
use lib.Dec.{ltb, eqb}
use borrow.Author.Tests.{ltb-true, eqb-true}
use Rattle.rules.specs.declared.samples.Sample.{Sample}
use Rattle.rules.specs.Lines.{Line, lines}
use Rattle.rules.specs.Answers.{accepted}
use Rattle.rules.specs.SampleFile.{Sheet, sample_sheet, heading_line, row_values, time_in, later_rows, rows_after, sheet_lines, sample_of, sample_file}
use Rattle.rules.proofs.Checks.{passed, bound, same-value}

-- each row's time is above the one before it, at first above `last`
abbrev Rising : ℕ → List (List ℕ) → Type 0
Rising last [] = Unit {0}
Rising last (values ∷ rows) = (last < time_in values) × Rising (time_in values) rows

-- a row that is above `last` is taken and is the next to be above; any other changes nothing
taken : (b : Bool) (last : ℕ) (values : List ℕ) (rows : List (List ℕ)) → ltb last (time_in values) ≡ b → Rising (if b then time_in values else last) rows → Rising last (if b then values ∷ rows else rows)
taken true last values rows e h = (ltb-true last (time_in values) e, h)
taken false last values rows e h = h

later-rise : (sheet : Sheet) (columns : List ℕ) (line last : ℕ) (ls : List Line) (rows : List (List ℕ)) → later_rows sheet columns line last ls ≡ accepted rows → Rising last rows
unfolding later_rows
later-rise sheet columns line last [] rows h = subst (Rising last) (same-value [] rows h) tt
later-rise sheet columns line last (l ∷ ls) rows h =
    let a = bound (row_values sheet columns line l) _ rows h in
    let b = bound (later_rows sheet columns _ _ ls) _ rows a.2 in
    subst (Rising last) (same-value _ rows b.2)
    (taken (ltb last (time_in a.0)) last a.0 b.0 refl (later-rise sheet columns (suc line) _ ls b.0 b.1))

-- ---- of the sample file

abbrev pub TimesRise : ℕ → List Sample → Type 0
TimesRise last [] = Unit {0}
TimesRise last (x ∷ rows) = (last < x.at) × TimesRise x.at rows

-- "The first row's time is 0", and there is one
abbrev pub FromZero : List Sample → Type 0
FromZero [] = ⊥
FromZero (x ∷ rows) = (x.at ≡ 0) × TimesRise x.at rows

times-rise : (last : ℕ) (rows : List (List ℕ)) → Rising last rows → TimesRise last (map sample_of rows)
times-rise last [] h = tt
times-rise last (values ∷ rows) h = (h.0, times-rise (time_in values) rows h.1)

rows-rise : (sheet : Sheet) (columns : List ℕ) (ls : List Line) (rows : List (List ℕ)) → rows_after sheet columns ls ≡ accepted rows → FromZero (map sample_of rows)
unfolding rows_after
rows-rise sheet columns [] rows h = absurd (let z : ◌≡◌ {A = ℕ} 0 1 = cc in omega arith)
rows-rise sheet columns (l ∷ ls) rows h =
    let a = bound (row_values sheet columns 2 l) _ rows h in
    let b = passed (eqb (time_in a.0) 0) 21 2 _ rows a.2 in
    let c = bound (later_rows sheet columns 3 (time_in a.0) ls) _ rows b.1 in
    subst (λ (r : List (List ℕ)). FromZero (map sample_of r)) (same-value (a.0 ∷ c.0) rows c.2)
    (eqb-true (time_in a.0) 0 b.0, times-rise (time_in a.0) c.0 (later-rise sheet columns 3 (time_in a.0) ls c.0 c.1))

sheet-rise : (ls : List Line) (rows : List (List ℕ)) → sheet_lines sample_sheet ls ≡ accepted rows → FromZero (map sample_of rows)
unfolding sheet_lines
sheet-rise [] rows h = absurd (let z : ◌≡◌ {A = ℕ} 0 1 = cc in omega arith)
sheet-rise (l ∷ ls) rows h =
    let a = bound (heading_line sample_sheet.names l) _ rows h in
    rows-rise sample_sheet a.0 ls rows a.2

pub samples-rise : (s : List ℕ) (rows : List Sample) → sample_file s ≡ accepted rows → FromZero rows
unfolding sample_file
samples-rise s rows h =
    let a = bound (sheet_lines sample_sheet (lines s)) _ rows h in
    subst FromZero (same-value (map sample_of a.0) rows a.2) (sheet-rise (lines s) a.0 a.1)
