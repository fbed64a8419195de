-- The sample file in chunks: what a reader that holds the beginning of a file comes to with any rest of it.
-- What a call owes is stated over every rest, so that calls chain.
use Rattle.std.specs.Prelude.{ℕ, min, ◌≤◌, ◌<◌, ◌≡◌, Bool, true, false, List, [], ◌∷◌, ◌++◌, length, take, drop, Ok, Err, Some, None, Result, Option, is_some}
use Rattle.byte_search.specs.Bytes.{index_of}
use Rattle.rules.specs.Bytes.{LF, parts}
use Rattle.rules.specs.Lines.{Line, without_cr, lines_of}
use Rattle.rules.specs.Answers.{refusal_of}
use Rattle.sheet_stages.specs.declared.stage.Stage.{Stage}
use Rattle.sample_rows.specs.declared.reader.SampleReader.{SampleReader}
use Rattle.sample_rows.specs.declared.reader.LineTurn.{LineTurn}
use Rattle.sample_rows.specs.declared.reader.Extended.{Extended}
use Rattle.sample_rows.specs.declared.reader.NextRow.{NextRow}
use Rattle.sample_rows.specs.declared.reader.Pulled.{Pulled}
use Rattle.sheet_stages.specs.ToCome.{RowsRead, to_come, row_first, all_read}
use Rattle.rules.specs.declared.answers.Refusal.{Refusal}
use Rattle.rules.specs.declared.samples.Sample.{Sample}

-- ---- lines

-- "A line ends at LF (one CR just before it is dropped) or at the end of the file": its text
abbrev pub text_of : Bool → List ℕ → List ℕ
text_of true s = without_cr s
text_of false s = s

-- bytes in front of the first part
abbrev pub begun_with : List ℕ → List (List ℕ) → List (List ℕ)
begun_with s [] = s ∷ []
begun_with s (p ∷ ps) = (s ++ p) ∷ ps

-- the lines of a file, of which the bytes `begun` of a line have been read and `rest` is left
unfoldable pub lines_after : List ℕ → List ℕ → List Line
lines_after begun rest = lines_of (begun_with begun (parts LF rest))

-- ---- the reader of rows

-- the bytes that it holds, of a line that has begun
abbrev pub begun_in : SampleReader → List ℕ
begun_in m = take m.len m.line

-- the rows that the reader has not handed over yet, up to the first refused line, and that refusal, where `rest` is left of the file
unfoldable pub yet_to_come : SampleReader → List ℕ → RowsRead
yet_to_come m rest = to_come m.stage (lines_after (begun_in m) rest)

-- a line that has these bytes, where they are not too many for one
abbrev pub ExtendedRight : List ℕ → Option Extended → Type 0
ExtendedRight s (Some e) = (take e.len e.line ≡ s) × (e.len ≤ 512)
ExtendedRight s None = 512 < length s

-- what the line from a place of a chunk on gave, where the bytes `begun` of it came before
pub record LineEnded (stage : Stage) (begun chunk : List ℕ) (at : ℕ) (r : LineTurn) : Type 0 where
  pub line : (rest : List ℕ) → to_come stage (lines_after begun (drop at chunk ++ rest)) ≡ row_first r.turn.found (to_come r.turn.stage (lines_after [] (drop r.next chunk ++ rest)))
  pub onward : at < r.next
  pub within : r.next ≤ length chunk

-- and none where the chunk has no LF of it
abbrev pub LineRight : Stage → List ℕ → List ℕ → ℕ → Option LineTurn → Type 0
LineRight stage begun chunk at (Some r) = LineEnded stage begun chunk at r
LineRight stage begun chunk at None = index_of LF (drop at chunk) ≡ length (drop at chunk)

-- what the next row of the lines that end in a chunk owes; what is left has no line that ends
pub record NextRight (stage : Stage) (line : List ℕ) (len : ℕ) (chunk : List ℕ) (at : ℕ) (r : NextRow) : Type 0 where
  pub rows : (rest : List ℕ) → to_come stage (lines_after (take len line) (drop at chunk ++ rest)) ≡ row_first r.found (to_come r.stage (lines_after (take r.len line) (drop r.next chunk ++ rest)))
  pub within : r.next ≤ length chunk
  pub ahead : min at (length chunk) ≤ r.next
  pub onward : is_some r.found ≡ true → at < r.next
  pub further : is_some r.found ≡ false → index_of LF (drop r.next chunk) ≡ length (drop r.next chunk)

-- what pulling a row out of a chunk from a place on owes
pub record PulledRight (m : SampleReader) (chunk : List ℕ) (at : ℕ) (r : Pulled) : Type 0 where
  pub rows : (rest : List ℕ) → yet_to_come m (drop at chunk ++ rest) ≡ row_first r.found (yet_to_come r.reader (drop r.next chunk ++ rest))
  pub within : r.next ≤ length chunk
  pub onward : is_some r.found ≡ true → at < r.next
  pub exhausted : is_some r.found ≡ false → r.next ≡ length chunk

-- what the end of the file gives
abbrev pub ending_of : Result (Option Sample) Refusal → RowsRead
ending_of (Ok (Some x)) = all_read (x ∷ [])
ending_of (Ok None) = all_read []
ending_of (Err r) = record { rows = []; verdict = refusal_of r }
