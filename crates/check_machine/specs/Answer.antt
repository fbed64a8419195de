-- WHAT `check STATION SAMPLES` PRINTS, from document 01's own definitions of both files.
use Rattle.std.specs.Prelude.{ℕ, List}
use Rattle.rules.specs.Answers.{Answer, accepted, ◌>>=◌}
use Rattle.rules.specs.StationFile.{station_file}
use Rattle.rules.specs.SampleFile.{sample_file}
use Rattle.rules.specs.Run.{shown}
use Rattle.rows.specs.AnswerLine.{accepted_line}

-- the paper's order of the run program's checks, without the seconds: "both files, station first"
unfoldable pub check_of : List ℕ → List ℕ → Answer (List ℕ)
check_of station samples = do
  st ← station_file station
  rows ← sample_file samples
  accepted accepted_line

-- "a refusal prints only `refused,number,place`"
unfoldable pub answered : List ℕ → List ℕ → List ℕ
answered station samples = shown (check_of station samples)
