-- Document 01, "A row holds until the next": the row in force at a second, of a sample file that comes in chunks.
-- What a call owes is stated over every rest of the file, so that calls chain.
use Rattle.std.specs.Prelude.{ℕ, zero, suc, ◌≤◌, ◌<◌, min, max, ◌≡◌, Bool, true, false, List, [], ◌∷◌, ◌++◌, length, drop, leb, if◌then◌else◌, Some}
use Rattle.byte_search.specs.Bytes.{index_of}
use Rattle.rules.specs.declared.samples.Sample.{Sample}
use Rattle.rules.specs.declared.run.Inputs.{Inputs}
use Rattle.rules.specs.Bytes.{LF}
use Rattle.rules.specs.Answers.{is_accepted, refusal_of}
use Rattle.rules.specs.SampleFile.{holding}
use Rattle.rules.specs.Run.{inputs_of}
use Rattle.sample_rows.specs.declared.reader.SampleReader.{SampleReader}
use Rattle.rows_in_force.specs.declared.in_force.Ahead.{Ahead}
use Rattle.rows_in_force.specs.declared.in_force.InForce.{InForce}
use Rattle.rows_in_force.specs.declared.in_force.Begun.{Begun}
use Rattle.rows_in_force.specs.declared.in_force.Reached.{Reached}
use Rattle.sheet_stages.specs.ToCome.{RowsRead, row_first, all_read}
use Rattle.sample_rows.specs.Streamed.{yet_to_come}

-- ---- the rows that are still to come into force

-- the rows that are known to be ahead, and then those that the reader has not handed over yet
abbrev pub rows_ahead : Ahead → RowsRead → RowsRead
rows_ahead Ahead.Unread others = others
rows_ahead (Ahead.Next x) others = row_first (Some x) others
rows_ahead (Ahead.LastTwo x y) others = all_read (x ∷ y ∷ [])
rows_ahead (Ahead.Last x) others = all_read (x ∷ [])
rows_ahead Ahead.Ended others = all_read []
rows_ahead (Ahead.Refused r) others = record { rows = []; verdict = refusal_of r }

-- the next row has to be read before a second can be worked
abbrev pub is_unread : Ahead → Bool
is_unread Ahead.Unread = true
is_unread (Ahead.Next x) = false
is_unread (Ahead.LastTwo x y) = false
is_unread (Ahead.Last x) = false
is_unread Ahead.Ended = false
is_unread (Ahead.Refused r) = false

-- no rest of the file changes what is ahead
abbrev pub is_ended : Ahead → Bool
is_ended Ahead.Unread = false
is_ended (Ahead.Next x) = false
is_ended (Ahead.LastTwo x y) = true
is_ended (Ahead.Last x) = true
is_ended Ahead.Ended = true
is_ended (Ahead.Refused r) = true

abbrev pub is_refusal : Ahead → Bool
is_refusal Ahead.Unread = false
is_refusal (Ahead.Next x) = false
is_refusal (Ahead.LastTwo x y) = false
is_refusal (Ahead.Last x) = false
is_refusal Ahead.Ended = false
is_refusal (Ahead.Refused r) = true

-- ---- what each second is handed

-- n seconds from second t on, where the row `now` is in force and `rows` are to come
unfoldable pub held_from : Sample → List Sample → ℕ → ℕ → List Inputs
held_from now rows t zero = []
held_from now rows t (suc n) = inputs_of (holding now rows t) ∷ held_from now rows (suc t) n

-- the greatest time of these rows, and 0 where there is none: of an accepted file's rows the last one's
unfoldable pub latest : List Sample → ℕ
latest [] = 0
latest (x ∷ rows) = max x.at (latest rows)

-- the row `now'` in force and the rows `rows'` to come are the last of what was in force and to come, from second t on they are
-- held as those were, and none of the others is later than t
pub record Onward (now : Sample) (rows : List Sample) (t : ℕ) (now' : Sample) (rows' : List Sample) : Type 0 where
  pub passed : ℕ
  pub last : drop passed (now ∷ rows) ≡ now' ∷ rows'
  pub held : (n : ℕ) → held_from now rows t n ≡ held_from now' rows' t n
  pub came : (m : ℕ) → t ≤ m → latest rows' ≤ m → latest rows ≤ m

-- a second can be told: no line is refused, or a row before the refused one is later
abbrev pub Tellable : RowsRead → ℕ → Type 0
Tellable r t = is_accepted r.verdict ≡ false → t < latest r.rows

-- ---- the row in force at a second

abbrev pub last_comes_in : Sample → Sample → ℕ → InForce
last_comes_in now x t =
    if leb x.at t then record { now = x; ahead = Ahead.Ended } else record { now = now; ahead = Ahead.Last x }

-- of the rows that are known to be ahead
abbrev pub comes_in : Sample → Ahead → ℕ → InForce
comes_in now Ahead.Unread t = record { now = now; ahead = Ahead.Unread }
comes_in now (Ahead.Next x) t =
    if leb x.at t then record { now = x; ahead = Ahead.Unread } else record { now = now; ahead = Ahead.Next x }
comes_in now (Ahead.LastTwo x y) t =
    if leb x.at t then last_comes_in x y t else record { now = now; ahead = Ahead.LastTwo x y }
comes_in now (Ahead.Last x) t = last_comes_in now x t
comes_in now Ahead.Ended t = record { now = now; ahead = Ahead.Ended }
comes_in now (Ahead.Refused r) t = record { now = now; ahead = Ahead.Refused r }

-- the reader of a line that has begun
abbrev pub reader_at : Begun → List ℕ → SampleReader
reader_at b line = record { line = line; len = b.len; stage = b.stage }

-- where second t was reached: the rows to come, and whether the row in force is known to be that second's
pub record AtSecond (now : Sample) (before : RowsRead) (t : ℕ) (r : Reached) (after : RowsRead) : Type 0 where
  pub verdict : after.verdict ≡ before.verdict
  pub onward : Onward now before.rows t r.now after.rows
  pub force : is_unread r.ahead ≡ false → holding r.now after.rows t ≡ r.now
  pub tells : is_unread r.ahead ≡ false → is_refusal r.ahead ≡ false → Tellable after t

-- what reaching a second owes, with a chunk from a place on
pub record ReachedRight (b : Begun) (line : List ℕ) (now : Sample) (ahead : Ahead) (t : ℕ) (chunk : List ℕ) (at : ℕ) (r : Reached) : Type 0 where
  pub rows : (rest : List ℕ) → AtSecond now (rows_ahead ahead (yet_to_come (reader_at b line) (drop at chunk ++ rest))) t r (rows_ahead r.ahead (yet_to_come (reader_at r.begun line) (drop r.next chunk ++ rest)))
  pub within : r.next ≤ length chunk
  pub onward : min at (length chunk) ≤ r.next
  pub further : is_unread r.ahead ≡ true → index_of LF (drop r.next chunk) ≡ length (drop r.next chunk)
  pub wanted : is_unread r.ahead ≡ true → is_ended ahead ≡ false
  pub ended : is_ended r.ahead ≡ is_ended ahead
  pub refusal : is_refusal r.ahead ≡ is_refusal ahead
