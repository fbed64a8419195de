-- The sample file in chunks: what a check that holds the beginning of a file comes to with any rest of it.
-- What a call owes is stated over every rest, so that calls chain: `proofs/Chunks.antt` has the theorem over lists of chunks.
use Rattle.std.specs.Prelude.{ℕ, suc, min, ◌≤◌, ◌≡◌, List, [], ◌∷◌, ◌++◌, length, drop, Some, None, Option}
use Rattle.rules.specs.declared.samples.Sample.{Sample}
use Rattle.rules.specs.Answers.{Answer, accepted, ◌>>=◌, ◌>>◌}
use Rattle.rules.specs.SampleFile.{sample_file}
use Rattle.sheet_stages.specs.declared.stage.Stage.{Stage}
use Rattle.samples.specs.declared.check.Span.{Span}
use Rattle.samples.specs.declared.check.SampleCheck.{SampleCheck}
use Rattle.samples.specs.declared.check.RowsCounted.{RowsCounted}
use Rattle.sheet_stages.specs.ToCome.{most_place, RowsRead, to_come}
use Rattle.sample_rows.specs.Streamed.{lines_after, yet_to_come}

-- the time of the last of these rows, and `at` where there is none
unfoldable pub last_time : ℕ → List Sample → ℕ
last_time at [] = at
last_time at (x ∷ rows) = last_time x.at rows

-- how many rows there are, up to what 64 bits hold, and the time of the last
abbrev pub span_of : List Sample → Span
span_of rows = record { rows = min (length rows) most_place; last = last_time 0 rows }

-- a file's rows and span, or its refusal
unfoldable pub sheet_span : List ℕ → Answer Span
sheet_span s = do
  rows ← sample_file s
  accepted (span_of rows)

abbrev pub one_more : Span → Option Sample → Span
one_more s (Some x) = record { rows = min (suc s.rows) most_place; last = x.at }
one_more s None = s

-- with rows after those that were counted
unfoldable pub span_after : Span → List Sample → Span
span_after s [] = s
span_after s (x ∷ rows) = span_after (one_more s (Some x)) rows

abbrev pub spanned : Span → RowsRead → Answer Span
spanned s r = r.verdict >> accepted (span_after s r.rows)

-- what the check comes to, where `rest` is left of the file
unfoldable pub checked_with : SampleCheck → List ℕ → Answer Span
checked_with c rest = spanned c.span (yet_to_come c.reader rest)

-- what counting rows from a place of a chunk on owes, where the bytes `begun` of a line came before
pub record CountedOn (stage : Stage) (begun : List ℕ) (span : Span) (chunk : List ℕ) (at : ℕ) (r : RowsCounted) : Type 0 where
  pub rows : (rest : List ℕ) → spanned span (to_come stage (lines_after begun (drop at chunk ++ rest))) ≡ spanned r.span (to_come r.stage (lines_after begun (drop r.next chunk ++ rest)))
  pub onward : at ≤ r.next
  pub within : at ≤ length chunk → r.next ≤ length chunk
