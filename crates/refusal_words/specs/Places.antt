-- WHERE A REFUSAL'S FAULT STANDS, for the words about it: the station file or one of its entries, sets and configurations, the sample file
-- or one of its lines, the seconds asked, or what a call was handed. Document 01, "Refusal numbers": "0 for the rest and for a second's own
-- refusals"; "Seconds asked are 1 to 9 digits, else 18; over 316,224,000 gives 23; both after the files, place 0".
use Rattle.std.specs.Prelude.{ℕ, eqb, if◌then◌else◌}
use Rattle.rules.specs.declared.answers.Refusal.{Refusal}
use Rattle.rules.specs.declared.answers.Refusal.TheVariants.{StationSize, ContentsEntry, ContentsSize, ControlValue, BatteryValue, SetNumber, SetPairs, ConfigurationMask, LineLength, HeadingBlank, HeadingUnknown, HeadingTwice, HeadingMissing, FirstHeading, CellCount, Malformed, OverLimit, SheddableAboveLoad, FirstTime, NoRow, RunEnded, RunRecord, StationRecord, RowBuffer}
use Rattle.refusal_words.specs.declared.places.Place.{Place}
use Rattle.refusal_words.specs.declared.places.Place.TheVariants.{StationFile, Entry, Set, Configuration, SampleFile, Line, Seconds, Call}

-- a line where it is counted, from 1
abbrev pub line_or : ℕ → Place → Place
line_or line without = if eqb line 0 then without else Line line

-- "Both answer the station's refusal, then 8 for such a mask wrong", with the place 0
abbrev pub configuration_or_call : ℕ → Place
configuration_or_call configuration = if eqb configuration 0 then Call else Configuration configuration

abbrev pub place_of : Refusal → Place
place_of StationSize = StationFile
place_of (ContentsEntry entry) = Entry entry
place_of ContentsSize = StationFile
place_of ControlValue = StationFile
place_of BatteryValue = StationFile
place_of (SetNumber set) = Set set
place_of (SetPairs set) = Set set
place_of (ConfigurationMask configuration) = configuration_or_call configuration
place_of (LineLength line) = Line line
place_of (HeadingBlank line) = Line line
place_of (HeadingUnknown line) = Line line
place_of (HeadingTwice line) = Line line
place_of (HeadingMissing line) = Line line
place_of (FirstHeading line) = Line line
place_of (CellCount line) = Line line
place_of (Malformed line) = line_or line Seconds
place_of (OverLimit line) = line_or line Call
place_of (SheddableAboveLoad line) = line_or line Call
place_of (FirstTime line) = Line line
place_of NoRow = SampleFile
place_of RunEnded = Seconds
place_of RunRecord = Call
place_of StationRecord = Call
place_of RowBuffer = Call
