-- The shape of a station record: its arrays have their lengths, as every `Station` of the code has. Assumes nothing.
use mathlib.Core.Path.{◌≡◌}
use mathlib.Core.List.{List, [], ◌∷◌}
use lib.ListN.{length}
use Rattle.rules.specs.declared.station.GenSet.{GenSet}
use Rattle.rules.specs.declared.station.Station.{Station}

abbrev pub ShapedSets : List GenSet → Type 0
ShapedSets [] = Unit {0}
ShapedSets (g ∷ gs) = (length g.loads ≡ 5) × (length g.rates ≡ 5) × ShapedSets gs

pub record Shaped (st : Station) : Type 0 where
  pub sets-length : length st.sets ≡ 8
  pub configs-length : length st.configs ≡ 64
  pub curves : ShapedSets st.sets

-- of that, the lengths of the two tables
pub record Tables (st : Station) : Type 0 where
  pub sets-length : length st.sets ≡ 8
  pub configs-length : length st.configs ≡ 64

pub tables-of : {st : Station} → Shaped st → Tables st
tables-of shaped = record { sets-length = shaped.sets-length; configs-length = shaped.configs-length }
