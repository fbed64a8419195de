-- Document 01, "Refusal numbers", call by call: which numbers each call may answer, and at which places.
-- 8, 18, 19, 20 and 23 stand for a fault in more than one call; in each call's own table a number stands for one.
-- proofs/RefusalTables.antt shows that no call answers anything else.
use Rattle.std.specs.Prelude.{ℕ, Bool, true, false, ◌&&◌, ◌||◌, List, [], ◌∷◌, ◌++◌, ◌≡◌, eqb}
use Rattle.rules.specs.Numbers.{within}
use Rattle.rules.specs.Answers.{Answer, accepted, refused}

-- a refusal's number, and the range of its place
pub record Fault : Type 0 where
  pub number : ℕ
  pub least : ℕ
  pub most : ℕ

-- "0 for the rest and for a second's own refusals"
abbrev pub fault : ℕ → Fault
fault number = record { number = number; least = 0; most = 0 }

abbrev pub fault_at : ℕ → ℕ → ℕ → Fault
fault_at number least most = record { number = number; least = least; most = most }

unfoldable pub listed : List Fault → ℕ → ℕ → Bool
listed [] number place = false
listed (f ∷ fs) number place = eqb f.number number && within f.least f.most place || listed fs number place

-- an answer whose refusals, if any, are the table's
abbrev pub RefusedIn : {A : Type 0} → List Fault → Answer A → Type 0
RefusedIn table (accepted a) = Unit {0}
RefusedIn table (refused number place) = listed table number place ≡ true

-- the station file: four contents entries, at most 8 sets and 64 configurations
abbrev pub station_faults : List Fault
station_faults =
    fault 1
    ∷ fault_at 2 1 4
    ∷ fault 3
    ∷ fault 4
    ∷ fault 5
    ∷ fault_at 6 1 8
    ∷ fault_at 7 1 8
    ∷ fault_at 8 1 64
    ∷ []

-- the sample file, of so many lines: the heading line is line 1, the first row line 2
abbrev pub sample_faults : ℕ → List Fault
sample_faults lines =
    fault_at 11 1 lines
    ∷ fault_at 12 1 1
    ∷ fault_at 13 1 1
    ∷ fault_at 14 1 1
    ∷ fault_at 15 1 1
    ∷ fault_at 16 1 1
    ∷ fault_at 17 2 lines
    ∷ fault_at 18 2 lines
    ∷ fault_at 19 2 lines
    ∷ fault_at 20 2 lines
    ∷ fault_at 21 2 2
    ∷ fault 22
    ∷ []

-- the seconds asked
abbrev pub seconds_faults : List Fault
seconds_faults = fault 18 ∷ fault 23 ∷ []

-- the run program: both files, then the seconds asked
abbrev pub run_faults : ℕ → List Fault
run_faults lines = station_faults ++ (sample_faults lines ++ seconds_faults)

-- share and fuel rate: the station's, then a mask and a power of the caller's
abbrev pub sizing_faults : List Fault
sizing_faults = station_faults ++ (fault 8 ∷ fault 19 ∷ [])

-- the start of a run
abbrev pub start_faults : List Fault
start_faults = fault 25 ∷ []

-- a second
abbrev pub second_faults : List Fault
second_faults = fault 25 ∷ fault 24 ∷ fault 23 ∷ fault 19 ∷ fault 20 ∷ fault 26 ∷ []
