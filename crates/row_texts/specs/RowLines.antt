-- Rows of thirteen numbers, in the heading's order, as lines; and what such rows that are put into a buffer owe.
use Rattle.std.specs.Prelude.{ℕ, zero, suc, ◌+◌, ◌-◌, ◌*◌, ◌≤◌, ◌<◌, Bool, true, ◌≡◌, List, [], ◌∷◌, ◌++◌, length, take, drop}
use Rattle.rules.specs.declared.run.Row.{Row}
use Rattle.rules.specs.Bytes.{comma_line}
use Rattle.rules.specs.Row.{row_text}
use Rattle.decimals.specs.Commaed.{commaed}
use Rattle.texts.specs.Placed.{PutAt, Front}
use Rattle.row_texts.specs.declared.put_rows.LinePut.{LinePut}
use Rattle.row_texts.specs.declared.put_rows.RowsPut.{RowsPut}

-- the rows' bytes
unfoldable pub text_of : List Row → List ℕ
text_of [] = []
text_of (r ∷ rows) = row_text r ++ text_of rows

-- the lines of the first `count` thirteens
unfoldable pub lines_of : ℕ → List ℕ → List ℕ
lines_of zero numbers = []
lines_of (suc count) numbers = comma_line (take 13 numbers) ++ lines_of count (drop 13 numbers)

-- What rows that are put into a buffer owe.
pub record LinesPut (numbers lent : List ℕ) (p : RowsPut) (left : List ℕ) : Type 0 where
  -- their lines stand at the front, and the bytes past them stay
  pub front : Front lent (lines_of p.count numbers) p.bytes left
  pub whole : 13 * p.count ≤ length numbers
  -- as many as have room: of a row that is left the line does not fit
  pub ends : 13 * p.count + 13 ≤ length numbers → length lent < p.bytes + length (comma_line (take 13 (drop (13 * p.count) numbers)))

-- ---- on the way to it

-- a row's line from `at` on, where it has room: where the text of its last five numbers begins, where it ends, and the buffer as it is left
pub record LineAt (row : List ℕ) (at : ℕ) (lent : List ℕ) (p : LinePut) (left : List ℕ) : Type 0 where
  pub kept-is : p.kept ≡ at + length (commaed (take 8 row))
  pub put : PutAt (length (comma_line row)) (comma_line row) at lent p.end left

-- what putting a row's line may take for granted: room for any, and that the text of its last five numbers stands before it where it is told so
pub record Puttable (row : List ℕ) (alike : Bool) (kept at : ℕ) (out : List ℕ) : Type 0 where
  pub thirteen : length row ≡ 13
  pub room : at + 273 ≤ length out
  pub before : kept ≤ at
  pub stands : alike ≡ true → take (at - kept) (drop kept out) ≡ comma_line (drop 8 row)

-- the same of the row that begins at a place, whatever room there is: the text stands there where the row ends as the row before it does
pub record NextRow (numbers : List ℕ) (start kept at : ℕ) (out : List ℕ) : Type 0 where
  pub there : start + 13 ≤ length numbers
  pub within : at ≤ length out
  pub before : kept ≤ at
  pub stands : 13 ≤ start → take 5 (drop (start + 8) numbers) ≡ take 5 (drop (start - 5) numbers)
      → take (at - kept) (drop kept out) ≡ comma_line (drop 8 (take 13 (drop start numbers)))
