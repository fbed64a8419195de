-- The chunks of a file, and a row of it that is sought among the rows that come.
use Rattle.std.specs.Prelude.{ℕ, ◌+◌, min, max, Some, Option}
use Rattle.sheet_stages.specs.ToCome.{RowsRead}
use Rattle.test_chunks.specs.declared.Sought.{Sought}
use Rattle.test_chunks.specs.Answers.{row_at}
use Rattle.rules.specs.declared.samples.Sample.{Sample}

-- where the chunk that starts at a place ends: it has `size` bytes, at least 1, but none past the end of the file
unfoldable pub chunk_end : ℕ → ℕ → ℕ → ℕ
chunk_end len at size = min (at + max size 1) len

-- the row that is sought, where these rows are still to come
abbrev pub sought_in : Sought → RowsRead → Option Sample
sought_in (Sought.After before) r = row_at before r.rows
sought_in (Sought.Came x) r = Some x
