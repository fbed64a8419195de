-- What the tests are handed: a file's span, and one of its rows, as plain numbers.
use Rattle.std.specs.Prelude.{ℕ, zero, suc, List, [], ◌∷◌, Some, None, Option}
use Rattle.rules.specs.declared.samples.Sample.{Sample}
use Rattle.rules.specs.Answers.{Answer, accepted, refused}
use Rattle.samples.specs.declared.check.Span.{Span}
use Rattle.sheet_stages.specs.ToCome.{RowsRead}
use Rattle.test_chunks.specs.declared.ChunkedAnswer.{ChunkedAnswer}
use Rattle.test_chunks.specs.declared.ChunkedRow.{ChunkedRow}

-- number 0 and the span, or the number and the place of the refusal
abbrev pub span_answer : Answer Span → ChunkedAnswer
span_answer (accepted s) = record { number = 0; place = 0; rows = s.rows; last = s.last }
span_answer (refused number place) = record { number = number; place = place; rows = 0; last = 0 }

-- the row with an index, counted from 0
unfoldable pub row_at : ℕ → List Sample → Option Sample
row_at k [] = None
row_at zero (x ∷ rows) = Some x
row_at (suc k) (x ∷ rows) = row_at k rows

abbrev pub found_answer : Option Sample → ChunkedRow
found_answer (Some x) = record { found = 1; at = x.at; load = x.load; solar = x.solar; sheddable = x.sheddable }
found_answer None = record { found = 0; at = 0; load = 0; solar = 0; sheddable = 0 }

-- the rows of a refused file are those of the lines before the refused one
abbrev pub row_answer : ℕ → RowsRead → ChunkedRow
row_answer k r = found_answer (row_at k r.rows)
