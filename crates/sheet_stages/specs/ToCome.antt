-- Document 01, "The sample file", line by line: what the lines of a file still come to, once those before them came to a stage.
-- Each stage is one of the paper's own definitions on the lines that are left; no row is defined anew.
use Rattle.std.specs.Prelude.{ℕ, suc, min, Bool, true, false, List, [], ◌∷◌, map, Some, None, Result, Option}
use Rattle.rules.specs.declared.samples.Sample.{Sample}
use Rattle.rules.specs.Answers.{Answer, accepted, refused, judged, value_or, refusal_of, result_of, ◌>>◌}
use Rattle.rules.specs.Lines.{Line, lines}
use Rattle.rules.specs.SampleFile.{sample_sheet, sheet_lines, rows_after, later_rows, sample_of}
use Rattle.sheet_stages.specs.declared.stage.Stage.{Stage}
use Rattle.sheet_headings.specs.Headings.{columns_of}
use Rattle.rules.specs.declared.answers.Refusal.{Refusal}

-- the greatest place that 64 bits hold; a line beyond it has it as its place
abbrev pub most_place : ℕ
most_place = 18446744073709551615

abbrev pub placed : {A : Type 0} → Answer A → Answer A
placed (accepted a) = accepted a
placed (refused number place) = refused number (min place most_place)

-- ---- the paper's answer

abbrev pub samples_of : Answer (List (List ℕ)) → Answer (List Sample)
samples_of (accepted rows) = accepted (map sample_of rows)
samples_of (refused number place) = refused number place

-- of the lines that are left
unfoldable pub answer_from : Stage → List Line → Answer (List Sample)
answer_from Stage.Heading ls = placed (samples_of (sheet_lines sample_sheet ls))
answer_from (Stage.FirstRow columns) ls = placed (samples_of (rows_after sample_sheet (columns_of columns) ls))
answer_from (Stage.LaterRows columns last n) ls = placed (samples_of (later_rows sample_sheet (columns_of columns) (suc n) last ls))
answer_from (Stage.Refused r) ls = refusal_of r

-- the row that was found stands before those of an answer
abbrev pub row_before : Option Sample → Answer (List Sample) → Answer (List Sample)
row_before (Some x) (accepted rows) = accepted (x ∷ rows)
row_before (Some x) (refused number place) = refused number place
row_before None a = a

-- ---- the rows of the lines up to the first refused one, beside that refusal: a refused file has rows too

-- `verdict` is the refusal, or that there is none
pub record RowsRead : Type 0 where
  pub rows : List Sample
  pub verdict : Answer (Unit {0})

-- the first of two answers that is accepted, and else the second
abbrev pub or_else : Answer (List Sample) → Answer (List Sample) → Answer (List Sample)
or_else (accepted rows) b = accepted rows
or_else (refused number place) b = b

-- what the paper answers to the longest beginning of these lines that it accepts
unfoldable pub longest : (List Line → Answer (List Sample)) → List Line → Answer (List Sample)
longest answer [] = answer []
longest answer (l ∷ ls) = or_else (longest (λ (begun : List Line). answer (l ∷ begun)) ls) (answer [])

unfoldable pub up_to_refused : (List Line → Answer (List Sample)) → List Line → RowsRead
up_to_refused answer ls = record { rows = value_or [] (longest answer ls); verdict = judged (answer ls) }

unfoldable pub to_come : Stage → List Line → RowsRead
to_come stage ls = up_to_refused (answer_from stage) ls

-- the rows of a file up to its first refused line, and that refusal
unfoldable pub file_rows : List ℕ → RowsRead
file_rows s = up_to_refused (λ (ls : List Line). placed (samples_of (sheet_lines sample_sheet ls))) (lines s)

-- the rows after the one that was found are those to come
abbrev pub row_first : Option Sample → RowsRead → RowsRead
row_first (Some x) r = record { rows = x ∷ r.rows; verdict = r.verdict }
row_first None r = r

-- the paper's answer: the rows, where no line is refused
abbrev pub answer_of : RowsRead → Answer (List Sample)
answer_of r = r.verdict >> accepted r.rows

-- these rows, and no line refused
abbrev pub all_read : List Sample → RowsRead
all_read rows = record { rows = rows; verdict = accepted tt }

-- at the end of the file
abbrev pub end_of : Result (Unit {0}) Refusal → RowsRead
end_of v = record { rows = []; verdict = result_of v }

-- a line was refused, so that no rest of the file changes the answer
abbrev pub is_refused : Stage → Bool
is_refused Stage.Heading = false
is_refused (Stage.FirstRow columns) = false
is_refused (Stage.LaterRows columns last n) = false
is_refused (Stage.Refused r) = true
