-- Document 01, its last paragraph: share and fuel rate, as the C sizing screen asks for them.
use Rattle.std.specs.Prelude.{ℕ, zero, suc, ◌&&◌, List, leb, ltb, eqb, if◌then◌else◌}
use Rattle.std.specs.Int.Count.{ones}
use Rattle.rules.specs.declared.station.Station.{Station}
use Rattle.rules.specs.Numbers.{has, existing_only, sum_to}
use Rattle.rules.specs.Answers.{Answer, accepted, judged, need, ◌>>=◌, ◌>>◌}
use Rattle.rules.specs.StationRecord.{set_at}
use Rattle.rules.specs.StationFile.{station_file}
use Rattle.rules.specs.Share.{capacity, share}
use Rattle.rules.specs.Fuel.{fuel_rate}
use Rattle.rules.specs.SampleFile.{sample_file}

-- ---- "file checks": a file is good, or its refusal

unfoldable pub station_check : List ℕ → Answer (Unit {0})
station_check s = judged (station_file s)

unfoldable pub sample_check : List ℕ → Answer (Unit {0})
sample_check s = judged (sample_file s)

-- ---- "Share takes station bytes, a mask, a power and a set's number, and answers that set's watts"

-- "0 if it is not in the mask": so is set 0, and a set that the station has not
unfoldable pub share_of_set : Station → ℕ → ℕ → ℕ → ℕ
share_of_set st mask power zero = 0
share_of_set st mask power (suc i) = if ltb i st.setcount then share st.sets mask power i else 0

-- "Both answer the station's refusal, then 8 for such a mask wrong, then 19 for power above its capacity, these two with place 0."
unfoldable pub share_of : Station → ℕ → ℕ → ℕ → Answer ℕ
share_of st mask power set = do
  need (existing_only st.setcount mask && ltb 0 mask) 8 0
  need (leb power (capacity st.sets mask)) 19 0
  accepted (share_of_set st mask power set)

unfoldable pub share_asked : List ℕ → ℕ → ℕ → ℕ → Answer ℕ
share_asked s mask power set = do
  st ← station_file s
  share_of st mask power set

-- ---- "fuel rate takes the first three, with a mask of one set"

-- the rates of the mask's sets together, of which there is one
unfoldable pub rate_of_mask : Station → ℕ → ℕ → ℕ
rate_of_mask st mask power = sum_to 8 (λ i. if has mask i then fuel_rate (set_at st.sets i) power else 0)

unfoldable pub rate_of : Station → ℕ → ℕ → Answer ℕ
rate_of st mask power = do
  need (existing_only st.setcount mask && eqb (ones mask) 1) 8 0
  need (leb power (capacity st.sets mask)) 19 0
  accepted (rate_of_mask st mask power)

unfoldable pub rate_asked : List ℕ → ℕ → ℕ → Answer ℕ
rate_asked s mask power = do
  st ← station_file s
  rate_of st mask power
