-- Document 01, "A row holds until the next": the row in force and the rows after it, from the first byte of the sample file to its end.
-- What a call owes is stated over every rest of the file, so that calls chain.
use Rattle.std.specs.Prelude.{ℕ, ◌≡◌, Bool, true, false, not, List, [], if◌then◌else◌, Ok, Err, Some, None, Result, Option}
use Rattle.rules.specs.Answers.{is_accepted}
use Rattle.rows_in_force.specs.declared.in_force.Ahead.{Ahead}
use Rattle.input_source.specs.declared.source.InputSource.{InputSource}
use Rattle.sheet_stages.specs.ToCome.{RowsRead, is_refused}
use Rattle.sample_rows.specs.Streamed.{yet_to_come}
use Rattle.rows_in_force.specs.Held.{rows_ahead, is_ended}
use Rattle.rules.specs.declared.answers.Refusal.{Refusal}
use Rattle.rules.specs.declared.samples.Sample.{Sample}

-- ---- the rows that are still to come into force

-- where `rest` is left of the file: up to the first refused line, beside that refusal
unfoldable pub source_rows : InputSource → List ℕ → RowsRead
source_rows s rest = rows_ahead s.ahead (yet_to_come s.reader rest)

abbrev pub source_ended : InputSource → Bool
source_ended s = is_ended s.ahead

-- the file was refused, and no row of it is left: of a row that is ahead the seconds before it can be told
abbrev pub refused_ahead : Ahead → Bool → Bool
refused_ahead Ahead.Unread line = line
refused_ahead (Ahead.Next x) line = false
refused_ahead (Ahead.LastTwo x y) line = false
refused_ahead (Ahead.Last x) line = false
refused_ahead Ahead.Ended line = false
refused_ahead (Ahead.Refused r) line = true

unfoldable pub source_refused : InputSource → Bool
source_refused s = refused_ahead s.ahead (is_refused s.reader.stage)

-- ---- the end of the file

-- after what is ahead there is what the reader's last line gave
abbrev pub ahead_at_end : Ahead → Result (Option Sample) Refusal → Ahead
ahead_at_end Ahead.Unread (Ok (Some y)) = Ahead.Last y
ahead_at_end Ahead.Unread (Ok None) = Ahead.Ended
ahead_at_end Ahead.Unread (Err r) = Ahead.Refused r
ahead_at_end (Ahead.Next x) (Ok (Some y)) = Ahead.LastTwo x y
ahead_at_end (Ahead.Next x) (Ok None) = Ahead.Last x
ahead_at_end (Ahead.Next x) (Err r) = Ahead.Refused r
ahead_at_end (Ahead.LastTwo x y) e = Ahead.LastTwo x y
ahead_at_end (Ahead.Last x) e = Ahead.Last x
ahead_at_end Ahead.Ended e = Ahead.Ended
ahead_at_end (Ahead.Refused r) e = Ahead.Refused r

-- a file that is refused at its end has no further second
abbrev pub at_end_of : RowsRead → RowsRead
at_end_of r = if is_accepted r.verdict then r else record { rows = []; verdict = r.verdict }

pub record EndedRight (s r : InputSource) : Type 0 where
  -- no byte was left, and whatever is said to follow changes nothing
  pub rows : (rest : List ℕ) → source_rows r rest ≡ at_end_of (source_rows s [])
  pub held : r.now ≡ s.now
  pub ended : source_ended r ≡ true
  -- refused exactly where the file is
  pub right : source_refused r ≡ not (is_accepted (source_rows s []).verdict)
