-- Document 01, the run program's refusals and the sizing screen's answers, beside their edges, over station A. By computation. Assumes
-- nothing.
use Prim.Native.Nat.{ℕ}
use Prim.Native.String as S
use mathlib.Core.Path.{◌≡◌, refl}
use mathlib.Core.List.{List, [], ◌∷◌, ◌++◌, map}
use lib.ListN.{take, drop, get_or}
use lib.Count
use Rattle.rules.specs.declared.station.Station.{Station}
use Rattle.rules.specs.Numbers
use Rattle.rules.specs.Bytes
use Rattle.rules.specs.Bytes.{bytes, decimal, comma_line}
use Rattle.rules.specs.Answers.{Answer, accepted, refused, refusal}
use Rattle.rules.specs.StationRecord
use Rattle.rules.specs.StationFile
use Rattle.rules.specs.Lines
use Rattle.rules.specs.SampleFile
use Rattle.rules.specs.Share
use Rattle.rules.specs.Fuel
use Rattle.rules.specs.Sizing
use Rattle.rules.specs.Sizing.{station_check, sample_check, share_of, share_asked, rate_of, rate_asked}
use Rattle.rules.specs.RunRecord
use Rattle.rules.specs.Row
use Rattle.rules.specs.Run
use Rattle.rules.specs.Run.{seconds_asked, printed}
use Rattle.rules.specs.Cases
use Rattle.rules.specs.Cases.{Case, ◌shows◌, station_a, samples_a}
use Rattle.rules.proofs.EdgeRecords.{refuses, accepts, given, said, station_with}

-- the number answered, or the refusal
abbrev shown : Answer ℕ → List ℕ
shown (accepted n) = n ∷ []
shown (refused number place) = refuses number place

-- ---- the run program

abbrev seconds : S.String → List ℕ
seconds s = shown (seconds_asked (bytes s))

abbrev run_edges : List Case
run_edges =
    -- "Seconds asked are 1 to 9 digits, else 18; over 316,224,000 gives 23"
    (seconds "0" shows 0 ∷ [])
    ∷ (seconds "000000005" shows 5 ∷ [])
    ∷ (seconds "316224000" shows 316224000 ∷ [])
    ∷ (seconds "316224001" shows refuses 23 0)
    ∷ (seconds "999999999" shows refuses 23 0)
    ∷ (seconds "0000000005" shows refuses 18 0)
    ∷ (seconds "" shows refuses 18 0)
    ∷ (seconds "5s" shows refuses 18 0)
    ∷ (seconds "-5" shows refuses 18 0)
    -- "checks both files, station first, before second 0; a refusal prints only `refused,number,place`"; the seconds "after the files"
    ∷ (printed (drop 1 station_a) [] [] shows bytes "refused,2,1\n")
    ∷ (printed (take 164 station_a) [] [] shows bytes "refused,1,0\n")
    ∷ (printed station_a [] [] shows bytes "refused,16,1\n")
    ∷ (printed station_a samples_a [] shows bytes "refused,18,0\n")
    ∷ (printed station_a samples_a (bytes "316224001") shows bytes "refused,23,0\n")
    -- no second asked: the headings, and a line for each set
    ∷ (printed station_a samples_a (bytes "0")
    shows bytes "t,load,shed,solar,charge,spill,give,diesel,unserved,on,sets,call,store\n"
    ++ bytes "set,run,starts,stops,energy,fuel\n1,0,0,0,0,0\n2,0,0,0,0,0\n")
    -- decimal numbers
    ∷ (decimal 0 shows bytes "0")
    ∷ (decimal 9 shows bytes "9")
    ∷ (decimal 10 shows bytes "10")
    ∷ (decimal 10_000_000_000_000 shows bytes "10000000000000")
    ∷ (comma_line (7 ∷ []) shows bytes "7\n")
    ∷ (comma_line (12 ∷ 0 ∷ 345 ∷ []) shows bytes "12,0,345\n")
    ∷ []

-- ---- the sizing screen: eight sets of 1 to 8 W, and station A's of 100,000 and 60,000 W

abbrev eight : Station
eight = station_with [] [] (map (λ n. n ∷ 1 ∷ 1 ∷ 0 ∷ 0 ∷ 2 ∷ 0 ∷ 100 ∷ 1000 ∷ 900 ∷ []) (1 ∷ 2 ∷ 3 ∷ 4 ∷ 5 ∷ 6 ∷ 7 ∷ 8 ∷ [])) []

abbrev two : Station
two =
    station_with [] []
    ((100000 ∷ 2 ∷ 1 ∷ 0 ∷ 0 ∷ 2 ∷ 0 ∷ 2000 ∷ 1000 ∷ 27000 ∷ []) ∷ (60000 ∷ 1 ∷ 1 ∷ 0 ∷ 0 ∷ 2 ∷ 0 ∷ 1500 ∷ 1000 ∷ 16500 ∷ []) ∷ []) []

abbrev sizing_edges : List Case
sizing_edges =
    -- "answers that set's watts, 0 if it is not in the mask"
    (map (λ n. get_or (shown (share_of two 3 25000 n)) 0 9) (0 ∷ 1 ∷ 2 ∷ 3 ∷ 9 ∷ []) shows 0 ∷ 15625 ∷ 9375 ∷ 0 ∷ 0 ∷ [])
    ∷ (map (λ n. get_or (shown (share_of two 2 25000 n)) 0 9) (0 ∷ 1 ∷ 2 ∷ 3 ∷ []) shows 0 ∷ 0 ∷ 25000 ∷ 0 ∷ [])
    ∷ (map (λ n. get_or (shown (share_of eight 255 36 n)) 0 9) (1 ∷ 7 ∷ 8 ∷ 9 ∷ []) shows 1 ∷ 7 ∷ 8 ∷ 0 ∷ [])
    -- "8 for such a mask wrong", that is zero or of a set that does not exist
    ∷ (shown (share_of two 0 0 1) shows refuses 8 0)
    ∷ (shown (share_of two 4 0 1) shows refuses 8 0)
    ∷ (shown (share_of eight 256 0 1) shows refuses 8 0)
    -- "19 for power above its capacity"
    ∷ (shown (share_of two 3 160000 2) shows 60000 ∷ [])
    ∷ (shown (share_of two 3 160001 2) shows refuses 19 0)
    ∷ (shown (share_of two 1 100001 1) shows refuses 19 0)
    -- "Both answer the station's refusal, then 8 .., then 19"
    ∷ (shown (share_asked station_a 3 25000 1) shows 15625 ∷ [])
    ∷ (shown (rate_asked station_a 1 15625) shows 5906 ∷ [])
    ∷ (shown (share_asked (take 164 station_a) 0 200000 1) shows refuses 1 0)
    ∷ (shown (share_of two 4 200000 1) shows refuses 8 0)
    ∷ (shown (rate_asked (take 164 station_a) 0 200000) shows refuses 1 0)
    ∷ (shown (rate_of two 4 200000) shows refuses 8 0)
    -- "fuel rate takes the first three, with a mask of one set"
    ∷ (shown (rate_of two 1 15625) shows 5906 ∷ [])
    ∷ (shown (rate_of two 2 60000) shows 16500 ∷ [])
    ∷ (shown (rate_of two 2 60001) shows refuses 19 0)
    ∷ (shown (rate_of two 0 0) shows refuses 8 0)
    ∷ (shown (rate_of two 3 0) shows refuses 8 0)
    ∷ (shown (rate_of two 4 0) shows refuses 8 0)
    ∷ (shown (rate_of eight 128 6) shows 700 ∷ [])
    ∷ (shown (rate_of eight 256 0) shows refuses 8 0)
    -- "file checks"
    ∷ (refusal (station_check station_a) shows accepts)
    ∷ (refusal (station_check (take 164 station_a)) shows refuses 1 0)
    ∷ (refusal (sample_check samples_a) shows accepts)
    ∷ (refusal (sample_check []) shows refuses 16 1)
    ∷ []

abbrev run_cases : List Case
run_cases = run_edges ++ sizing_edges

pub run-edges : given run_cases ≡ said run_cases
unfolding Numbers.sum_to Numbers.all_to Numbers.tab Bytes.bytes Bytes.same Bytes.little Bytes.littles Bytes.bytes_of Bytes.bytes_of_all Bytes.digits_in Bytes.decimal Bytes.comma_line Bytes.all_digits Bytes.digits Bytes.value_from Bytes.parts StationRecord.past_end StationRecord.set_at StationRecord.no_set StationRecord.control_right StationRecord.battery_right StationRecord.set_right StationRecord.pairs_right StationRecord.sets_right StationRecord.configurations_right StationRecord.values_right StationFile.entry_right StationFile.sets_of StationFile.record_of StationFile.contents_right StationFile.station_file Lines.without_cr Lines.lines_of Lines.lines Lines.cells_of SampleFile.sample_sheet SampleFile.name_of SampleFile.occurs SampleFile.headings SampleFile.heading_line SampleFile.time_cell SampleFile.power_form SampleFile.power_value SampleFile.power_cell SampleFile.cell SampleFile.cell_values SampleFile.value_under SampleFile.row_values SampleFile.later_rows SampleFile.rows_after SampleFile.sheet_lines SampleFile.sample_file Share.running_total Share.capacity Share.share Fuel.exact_line Fuel.lower_of Fuel.lower_point Fuel.exact_from Fuel.fuel_rate Sizing.station_check Sizing.sample_check Sizing.share_of_set Sizing.share_of Sizing.share_asked Sizing.rate_of_mask Sizing.rate_of Sizing.rate_asked RunRecord.start_record Row.row_heading Row.set_heading Row.set_lines Row.refusal_line Run.seconds_asked Run.rows_from Run.run_of Run.printed Cases.station_a Cases.samples_a Count.ones Count.ones_in Count.count_trailing_zeros
run-edges = refl
