-- Document 01, "The sample file": what reading the usual row in one pass owes. It is a row of `Rows`, and nothing is defined anew.
use Rattle.std.specs.Prelude.{◌≡◌, ℕ, zero, suc, ◌+◌, ◌<◌, ◌≤◌, true, List, [], ◌∷◌, ◌++◌, length, drop, nat_eq, nat_le, slice_index, Some, None, Option}
use Rattle.byte_search.specs.Bytes.{index_of}
use Rattle.rules.specs.declared.samples.Sample.{Sample}
use Rattle.rules.specs.Numbers.{every}
use Rattle.rules.specs.Bytes.{LF, CR, all_digits, value_from}
use Rattle.rules.specs.Lines.{ended}
use Rattle.rules.specs.Answers.{Answer, accepted}
use Rattle.rules.specs.SampleFile.{time_cell, power_cell}
use Rattle.sheet_headings.specs.declared.headings.Columns.{Columns}
use Rattle.usual_rows.specs.declared.usual.NumberRead.{NumberRead}
use Rattle.usual_rows.specs.declared.usual.Cell.{Cell}
use Rattle.usual_rows.specs.declared.usual.PowersRead.{PowersRead}
use Rattle.usual_rows.specs.declared.usual.UsualRow.{UsualRow}
use Rattle.sheet.specs.declared.rows.Powers.{Powers}
use Rattle.sheet.specs.Rows.{row_in, row_of_values}

-- a part of a text from a place on, up to the place `end`
pub record Part (s : List ℕ) (at end : ℕ) (part : List ℕ) : Type 0 where
  pub is : drop at s ≡ part ++ drop end s
  pub size : at + length part ≡ end

-- the digits that were taken, after some whose number is `before`
pub record DigitsTaken (s : List ℕ) (at most before : ℕ) (r : NumberRead) : Type 0 where
  pub taken : List ℕ
  pub part : Part s at r.end taken
  pub few : length taken ≤ most
  pub all : all_digits taken ≡ true
  pub number : r.number ≡ value_from before taken

-- a cell from a place on that is handed back as the part of the text that it is, and its number. It has no byte below the point, so neither
-- comma nor LF nor CR. It is not blank, it has the form that its rule asks, and the rule gives its number up to any limit
pub record CellPart (rule : ℕ → ℕ → List ℕ → Answer ℕ) (most : ℕ) (s : List ℕ) (at : ℕ) (cell : List ℕ) (number : ℕ) : Type 0 where
  pub part : Part s at (at + length cell) cell
  pub some : 0 < length cell
  pub few : length cell ≤ most
  pub clean : every (λ x. nat_le 46 x) cell ≡ true
  pub value : (line limit : ℕ) → number ≤ limit → rule line limit cell ≡ accepted number

-- what is known of a cell that was read, if one was
abbrev pub CellOf : (ℕ → ℕ → List ℕ → Answer ℕ) → ℕ → List ℕ → ℕ → Option Cell → Type 0
CellOf rule most s at (Some c) = CellPart rule most s at c.part.now c.number
CellOf rule most s at None = Unit {0}

-- such a cell within its limit, which ends at the place `end`
pub record CellTaken (rule : ℕ → ℕ → List ℕ → Answer ℕ) (most limit : ℕ) (s : List ℕ) (at end number : ℕ) : Type 0 where
  pub cell : List ℕ
  pub part : Part s at end cell
  pub few : length cell ≤ most
  pub clean : every (λ x. nat_le 46 x) cell ≡ true
  pub value : (line : ℕ) → rule line limit cell ≡ accepted number

-- "Time: 1 to 9 digits, at most 316,223,999"
abbrev pub TimeTaken : List ℕ → ℕ → ℕ → ℕ → Type 0
TimeTaken s at end seconds = CellTaken time_cell 9 316223999 s at end seconds

-- "Power in kW: 1 to 6 digits, then nothing or a point and 1 to 3 digits, at most 50,000 kW", after the comma at this place
abbrev pub PowerTaken : List ℕ → ℕ → ℕ → ℕ → Type 0
PowerTaken s at end watts = (slice_index s at ≡ 44) × CellTaken power_cell 10 50000000 s (at + 1) end watts

-- what is known of a cell that was read as a time, and as a power
abbrev pub TimeOf : List ℕ → ℕ → Option NumberRead → Type 0
TimeOf s at (Some r) = TimeTaken s at r.end r.number
TimeOf s at None = Unit {0}

abbrev pub PowerOf : List ℕ → ℕ → Option NumberRead → Type 0
PowerOf s at (Some r) = PowerTaken s at r.end r.number
PowerOf s at None = Unit {0}

-- so many powers, one after the other, each after a comma, and their watts
abbrev pub PowersTaken : ℕ → List ℕ → ℕ → ℕ → List ℕ → Type 0
PowersTaken zero s at end watts = end ≡ at
PowersTaken (suc n) s at end watts = (middle : ℕ) × PowersTaken n s at middle watts × PowerTaken s middle end (slice_index watts n)

-- what is known of three powers that were read
abbrev pub PowersOf : List ℕ → ℕ → Option PowersRead → Type 0
PowersOf s at (Some r) = PowersTaken 3 s at r.end (r.powers.second ∷ r.powers.third ∷ r.powers.fourth ∷ [])
PowersOf s at None = Unit {0}

-- "A line ends at LF (one CR just before it is dropped)": the end of a line from a place on, with one CR or none
pub record EndTaken (s : List ℕ) (at next : ℕ) : Type 0 where
  pub dropped : List ℕ
  pub few : length dropped ≤ 1
  pub all : every (λ x. nat_eq x CR) dropped ≡ true
  pub part : Part s at next (dropped ++ LF ∷ [])

-- what is known of a line's end that was read
abbrev pub EndOf : List ℕ → ℕ → Option ℕ → Type 0
EndOf s at (Some next) = EndTaken s at next
EndOf s at None = Unit {0}

-- the line from a place on, which ends at the LF before `next`, is a row
pub record UsualRight (columns : Columns) (s : List ℕ) (at : ℕ) (x : Sample) (next : ℕ) : Type 0 where
  pub text : List ℕ
  pub is : drop at s ≡ text ++ LF ∷ drop next s
  pub whole : index_of LF text ≡ length text
  pub onward : at < next
  pub within : next ≤ length s
  pub row : (line : ℕ) → accepted x ≡ row_in columns line (ended text)

-- the columns after the time's have the names of powers
pub record PowersNamed (columns : Columns) : Type 0 where
  pub second : (0 < columns.second) × (columns.second ≤ 3)
  pub third : (0 < columns.third) × (columns.third ≤ 3)
  pub fourth : (0 < columns.fourth) × (columns.fourth ≤ 3)

-- the row of values in the file's order, whatever its line
abbrev pub UsualValues : Columns → ℕ → Powers → ℕ → Option UsualRow → Type 0
UsualValues columns at powers next (Some r) = (r.next ≡ next) × ((line : ℕ) → accepted r.sample ≡ row_of_values columns line (at ∷ powers.second ∷ powers.third ∷ powers.fourth ∷ []))
UsualValues columns at powers next None = Unit {0}

abbrev pub UsualOf : Columns → List ℕ → ℕ → Option UsualRow → Type 0
UsualOf columns s at (Some r) = UsualRight columns s at r.sample r.next
UsualOf columns s at None = Unit {0}

-- the usual row from a place of a chunk on, later than the last
pub record UsualLater (columns : Columns) (last : ℕ) (chunk : List ℕ) (at : ℕ) (x : Sample) (next : ℕ) : Type 0 where
  pub later : last < x.at
  pub right : UsualRight columns chunk at x next

abbrev pub UsualLaterOf : Columns → ℕ → List ℕ → ℕ → Option UsualRow → Type 0
UsualLaterOf columns last chunk at (Some r) = UsualLater columns last chunk at r.sample r.next
UsualLaterOf columns last chunk at None = Unit {0}
