-- The seconds asked, out of the cell that the sample file's reader of digits gives. Assumes nothing.
use Rattle.std.specs.Prelude.{if◌then◌else◌, Ok, Err, Result}
use Prim.Native.Nat.{ℕ}
use mathlib.Core.Path.{◌≡◌, refl, ap, ◌∙◌}
use mathlib.Core.Bool.{Bool, true, false}
use mathlib.Core.List.{List}
use lib.Dec.{leb, eqb}
use Rattle.rules.specs.Answers.{Answer, accepted, refused, need, ◌>>◌}
use Rattle.rules.specs.Bytes.{digits, value}
use Rattle.rules.specs.RunRecord.{most_seconds}
use Rattle.rules.specs.SampleFile.{time_cell}
use Rattle.rules.specs.Run.{seconds_asked}
use Rattle.sheet.specs.Cells.{cell_of}
use Rattle.sheet.specs.declared.numbers.CellFault.{CellFault}

-- what a cell comes to as the seconds asked
abbrev pub asked_by : Result ℕ CellFault → Answer ℕ
asked_by (Ok v) = accepted v
asked_by (Err CellFault.Malformed) = refused 18 0
asked_by (Err CellFault.OverLimit) = refused 23 0

-- 23 where a cell has 19
abbrev renumbered : Answer ℕ → Answer ℕ
renumbered (accepted v) = accepted v
renumbered (refused number place) = if eqb number 18 then refused 18 0 else refused 23 0

cell-asked : (r : Result ℕ CellFault) → asked_by r ≡ renumbered (cell_of 0 r)
cell-asked (Ok v) = refl
cell-asked (Err CellFault.Malformed) = refl
cell-asked (Err CellFault.OverLimit) = refl

time-asked : (s : List ℕ) → renumbered (time_cell 0 most_seconds s) ≡ seconds_asked s
unfolding time_cell seconds_asked
time-asked s = go (digits 9 s) (leb (value s) most_seconds) (value s)
  where
    go : (form least : Bool) (v : ℕ) → renumbered (need form 18 0 >> (need least 19 0 >> accepted v)) ≡ (need form 18 0 >> (need least 23 0 >> accepted v))
    go true true v = refl
    go true false v = refl
    go false least v = refl

pub asked_by_lem : (r : Result ℕ CellFault) (s : List ℕ) → ((line : ℕ) → cell_of line r ≡ time_cell line most_seconds s) → asked_by r ≡ seconds_asked s
asked_by_lem r s cell = cell-asked r ∙ ap renumbered (cell 0) ∙ time-asked s
