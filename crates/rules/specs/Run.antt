-- Document 01, the run program: the bytes that it prints for two files and the seconds asked.
use Rattle.std.specs.Prelude.{ℕ, zero, suc, List, ◌++◌, take, leb}
use Rattle.rules.specs.declared.station.Station.{Station}
use Rattle.rules.specs.declared.samples.Sample.{Sample}
use Rattle.rules.specs.declared.run.Inputs.{Inputs}
use Rattle.rules.specs.declared.run.Run.{Run}
use Rattle.rules.specs.Bytes.{digits, value}
use Rattle.rules.specs.Answers.{Answer, accepted, refused, need, ◌>>=◌, ◌>>◌}
use Rattle.rules.specs.StationFile.{station_file}
use Rattle.rules.specs.SampleFile.{sample_file, sample_at}
use Rattle.rules.specs.RunRecord.{start_record, most_seconds}
use Rattle.rules.specs.Row.{row_heading, row_text, set_heading, set_lines, refusal_line}
use Rattle.rules.specs.Second.{step}

-- "Seconds asked are 1 to 9 digits, else 18; over 316,224,000 gives 23; both .. place 0."
unfoldable pub seconds_asked : List ℕ → Answer ℕ
seconds_asked s = do
  need (digits 9 s) 18 0
  need (leb (value s) most_seconds) 23 0
  accepted (value s)

-- what a row of the samples hands to a second
abbrev pub inputs_of : Sample → Inputs
inputs_of x = record { load = x.load; solar = x.solar; sheddable = x.sheddable }

-- the rows of n seconds from a record on, then the sets' lines
unfoldable pub rows_from : Station → List Sample → ℕ → Run → List ℕ
rows_from st samples zero r = set_heading ++ set_lines 0 (take st.setcount r.sets)
rows_from st samples (suc n) r =
    let s = step st r (inputs_of (sample_at samples r.done)) in
    row_text s.row ++ rows_from st samples n s.run

-- "The run program checks both files, station first, before second 0"; the seconds asked "after the files"
unfoldable pub run_of : List ℕ → List ℕ → List ℕ → Answer (List ℕ)
run_of station samples seconds = do
  st ← station_file station
  rows ← sample_file samples
  n ← seconds_asked seconds
  accepted (row_heading ++ rows_from st rows n (start_record st))

-- "a refusal prints only `refused,number,place`"
abbrev pub shown : Answer (List ℕ) → List ℕ
shown (accepted text) = text
shown (refused number place) = refusal_line number place

-- the bytes that `run STATION SAMPLES SECONDS` prints
unfoldable pub printed : List ℕ → List ℕ → List ℕ → List ℕ
printed station samples seconds = shown (run_of station samples seconds)
