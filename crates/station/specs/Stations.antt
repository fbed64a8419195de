-- Document 01, "The station file", as it arrives: what the bytes that are there and those still to come make together.
use Rattle.std.specs.Prelude.{ℕ, Bool, true, false, List, ◌++◌, leb, take}
use Rattle.rules.specs.declared.station.Station.{Station}
use Rattle.rules.specs.Answers.{Answer, accepted, refused}
use Rattle.rules.specs.StationFile.{station_file}
use Rattle.station.specs.declared.chunks.StationBytes.{StationBytes}

-- what the file comes to, where `rest` is still to arrive
unfoldable pub station_with : StationBytes → List ℕ → Answer Station
station_with f rest = station_file (take f.len f.bytes ++ rest)

-- "a file has 165 to 676 bytes": one more byte is held
unfoldable pub too_long : StationBytes → Bool
too_long f = leb 677 f.len

abbrev pub is_refused : {A : Type 0} → Answer A → Bool
is_refused (accepted a) = false
is_refused (refused number place) = true
