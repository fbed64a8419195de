-- Document 01, "The sample file": what a row comes to in code.
use Rattle.std.specs.Prelude.{ℕ, List, [], ◌∷◌}
use Rattle.rules.specs.declared.samples.Sample.{Sample}
use Rattle.rules.specs.Answers.{Answer, accepted, ◌>>=◌}
use Rattle.rules.specs.Lines.{Line}
use Rattle.rules.specs.Numbers.{tab}
use Rattle.rules.specs.SampleFile.{sample_sheet, cell_values, value_under, agreeing, row_values, sample_of}
use Rattle.sheet_headings.specs.declared.headings.Columns.{Columns}
use Rattle.sheet_headings.specs.Headings.{columns_of}

-- a row of the sample sheet, under these columns
abbrev pub row_in : Columns → ℕ → Line → Answer Sample
row_in columns line l = do
  values ← row_values sample_sheet (columns_of columns) line l
  accepted (sample_of values)

-- the names of the columns after the time's
abbrev pub power_columns : Columns → List ℕ
power_columns columns = columns.second ∷ columns.third ∷ columns.fourth ∷ []

-- the values of its cells, in the file's order, each under its heading
unfoldable pub sample_under : Columns → List ℕ → Sample
sample_under columns vs = sample_of (tab 4 (λ name. value_under name (columns_of columns) vs))

-- the same of these values
unfoldable pub row_of_values : Columns → ℕ → List ℕ → Answer Sample
row_of_values columns line vs = do
  values ← agreeing sample_sheet line (tab 4 (λ name. value_under name (columns_of columns) vs))
  accepted (sample_of values)

-- the same of as many cells as there are columns
unfoldable pub row_of_cells : Columns → ℕ → List (List ℕ) → Answer Sample
row_of_cells columns line cells = do
  vs ← cell_values line sample_sheet.limits (columns_of columns) cells
  row_of_values columns line vs
