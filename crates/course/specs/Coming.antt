-- The inputs of the seconds that are left, where the rest of the sample file is known; and how far a run is from its last second.
use Rattle.std.specs.Prelude.{ℕ, ◌+◌, ◌≤◌, ◌≡◌, Bool, true, false, List, [], ◌∷◌, ◌++◌}
use Rattle.rules.specs.declared.run.Inputs.{Inputs}
use Rattle.rules.specs.declared.samples.Sample.{Sample}
use Rattle.rules.specs.StationRecord.{some_file_gives}
use Rattle.rules.specs.RunRecord.{possible, most_seconds}
use Rattle.rules.specs.Run.{inputs_of}
use Rattle.rules.proofs.Shapes.{Tables}
use Rattle.sheet_stages.specs.ToCome.{all_read}
use Rattle.rows_in_force.specs.Held.{held_from}
use Rattle.input_source.specs.Source.{source_rows, source_ended}
use Rattle.course.specs.declared.state.Course.{Course}
use Rattle.course.specs.Ruled.{AllRight}

-- a station that some file gives, a possible record, and no more seconds left than a run may have
pub record Ready (c : Course) : Type 0 where
  pub station-given : some_file_gives c.station ≡ true
  pub tables : Tables c.station
  pub record-possible : possible c.station c.run ≡ true
  pub in-time : c.run.done + c.left ≤ most_seconds

-- the rows in force and to come as what each is when it is handed to a second
abbrev pub inputs_all : List Sample → List Inputs
inputs_all [] = []
inputs_all (x ∷ rows) = inputs_of x ∷ inputs_all rows

-- where `rest` is left of an accepted sample file, these are the inputs of the seconds that are left
pub record Coming (c : Course) (rest : List ℕ) (xs : List Inputs) : Type 0 where
  pub ready : Ready c
  pub rows : List Sample
  pub accepts : source_rows c.source rest ≡ all_read rows
  pub right : AllRight (inputs_all (c.source.now ∷ rows))
  pub are : xs ≡ held_from c.source.now rows c.run.done c.left

-- some of them are worked, and the others are still to come
pub record ComesOn (worked xs : List Inputs) (c : Course) (rest : List ℕ) : Type 0 where
  pub others : List Inputs
  pub are : xs ≡ worked ++ others
  pub come : Coming c rest others

-- ---- no call makes it more, and each that goes on makes it less

abbrev pub unended : Bool → ℕ
unended true = 0
unended false = 1

abbrev pub weight : Course → ℕ
weight c = c.left + unended (source_ended c.source)
