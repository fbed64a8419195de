-- Document 01, steps 9 and 10, at their edges: the reserve, the filter, and the configuration called. By computation. Assumes nothing.
use Rattle.std.specs.Prelude.{Some, None}
use Prim.Native.Nat.{ℕ}
use mathlib.Core.Path.{◌≡◌, refl}
use mathlib.Core.Bool.{true, false}
use mathlib.Core.List.{List, [], ◌∷◌, ◌++◌}
use lib.ListN.{replicate}
use lib.Ieee
use lib.Ieee.{Float, nan, inf}
use Rattle.rules.specs.declared.run.Mode.{Mode}
use Rattle.rules.specs.declared.run.Mode.TheVariants.{Off, Warming, On, Cooling, Service}
use Rattle.rules.specs.declared.run.SetState.{SetState}
use Rattle.rules.specs.Numbers
use Rattle.rules.specs.StationRecord
use Rattle.rules.specs.StationFile.{control_of}
use Rattle.rules.specs.Share
use Rattle.rules.specs.Modes
use Rattle.rules.specs.Setpoint
use Rattle.rules.specs.Setpoint.{coverage_of, reserve, wanted_for, float, held_after}
use Rattle.rules.specs.Configuration
use Rattle.rules.specs.Configuration.{mask_called, chosen, since_after}
use Rattle.rules.specs.Cases.{Case}
use Rattle.rules.proofs.EdgeRecords.{◌is◌, given, said, station_with, state_with}

-- ---- 9. Setpoint.

-- coverage % of the solar on load
abbrev coverage : ℕ → ℕ → ℕ
coverage percentage solar = coverage_of (control_of (0 ∷ percentage ∷ [])) solar

-- with coverage 50 % of 30,000 W, so 15,000 W: the reserve at this spinning reserve, maintain and live load
abbrev reserved : ℕ → ℕ → ℕ → ℕ
reserved spinning maintain live = reserve (control_of (spinning ∷ 50 ∷ 0 ∷ 0 ∷ 0 ∷ 0 ∷ 0 ∷ maintain ∷ [])) 30000 live

abbrev reserve_edges : List Case
reserve_edges =
    -- "Coverage = solar on load x coverage % / 100, rounded up."
    (coverage 50 10000 is 5000)
    ∷ (coverage 50 10001 is 5001)
    ∷ (coverage 1 1 is 1)
    ∷ (coverage 1 100 is 1)
    ∷ (coverage 1 101 is 2)
    ∷ (coverage 100 7 is 7)
    ∷ (coverage 0 7 is 0)
    -- "Reserve = max(0, max(spinning, coverage) - live)"
    ∷ (reserved 10000 0 0 is 15000)
    ∷ (reserved 10000 0 3000 is 12000)
    ∷ (reserved 10000 0 8000 is 7000)
    ∷ (reserved 10000 0 15000 is 0)
    ∷ (reserved 10000 0 20000 is 0)
    ∷ (reserved 20000 0 3000 is 17000)
    -- "or with maintain 1 max(spinning, max(0, coverage - live))"
    ∷ (reserved 10000 1 0 is 15000)
    ∷ (reserved 10000 1 3000 is 12000)
    ∷ (reserved 10000 1 5000 is 10000)
    ∷ (reserved 10000 1 8000 is 10000)
    ∷ (reserved 20000 1 3000 is 20000)
    ∷ (reserved 0 1 20000 is 0)
    -- "Live = H - off"; "Wanted = R + reserve": R 7 W, no solar on load, spinning 10 W, H 5 W, of which 2 W are off
    ∷ (wanted_for (control_of (10 ∷ [])) 7 0 2 5 is 14)
    ∷ []

-- "held x (k/1000) + wanted x ((1000-k)/1000)"; "With none held, held becomes wanted"
abbrev held_given : List Float
held_given =
    held_after 999 None 7 ∷ held_after 0 (Some (float 1000)) 2000 ∷ held_after 1 (Some (float 1000)) 2000 ∷ held_after 500 (Some (float 1000)) 2000
    ∷ held_after 999 (Some (float 1000)) 2000 ∷ held_after 999 (Some (float 0)) 1000000 ∷ held_after 0 (Some nan) 2000 ∷ held_after 0 (Some (inf false)) 2000 ∷ []

abbrev held_said : List Float
held_said = float 7 ∷ float 2000 ∷ float 1999 ∷ float 1500 ∷ float 1001 ∷ float 1000 ∷ nan ∷ nan ∷ []

-- ---- 10. Configuration: eight sets of the ratings 1 to 8 W, of which set 2 has service interval 5 s and set 8 interval 1 s

abbrev rated : ℕ → ℕ → List ℕ
rated rating interval = rating ∷ 1 ∷ 1 ∷ interval ∷ 1 ∷ []

abbrev sets : List (List ℕ)
sets = rated 1 0 ∷ rated 2 5 ∷ rated 3 0 ∷ rated 4 0 ∷ rated 5 0 ∷ rated 6 0 ∷ rated 7 0 ∷ rated 8 1 ∷ []

-- a set of this mode and service clock, and a set that is Off with clock 4
abbrev state : Mode → ℕ → SetState
state mode clock = state_with mode (0 ∷ clock ∷ [])

-- sets 1 to 7 Off with a clock of 4, and set 8 in this mode with this clock
abbrev eighth : Mode → ℕ → List SetState
eighth mode clock = replicate 7 (state Off 4) ++ (state mode clock ∷ [])

abbrev calls : List ℕ → List SetState → Float → ℕ
calls masks states held = chosen (station_with [] [] sets masks) states held 0 0 0

-- with minimum seconds, the called one, its since-second and the second, masks 1, 2, 3 of 1, 2, 3 W, held 1 W
abbrev keeps : ℕ → ℕ → ℕ → ℕ → ℕ
keeps minimum called since now =
    chosen (station_with (0 ∷ 0 ∷ 0 ∷ 0 ∷ 0 ∷ 0 ∷ minimum ∷ []) [] sets (1 ∷ 2 ∷ 3 ∷ [])) (eighth Off 0) (float 1) called since now

-- the same with a minimum of 3 s, in the second after the call, of another held setpoint and another second set
abbrev keeps_at : Float → SetState → ℕ
keeps_at held s =
    chosen (station_with (0 ∷ 0 ∷ 0 ∷ 0 ∷ 0 ∷ 0 ∷ 3 ∷ []) [] sets (1 ∷ 2 ∷ 3 ∷ [])) (state Off 0 ∷ s ∷ state Off 0 ∷ []) held 2 10 11

abbrev call_edges : List Case
call_edges =
    -- "the first usable covering"; "It covers when held <= capacity": masks of 3, 3, 4, 8 and 36 W
    (calls (3 ∷ 4 ∷ 8 ∷ 128 ∷ 255 ∷ []) (eighth Off 0) (float 0) is 1)
    ∷ (calls (3 ∷ 4 ∷ 8 ∷ 128 ∷ 255 ∷ []) (eighth Off 0) (float 3) is 1)
    ∷ (calls (3 ∷ 4 ∷ 8 ∷ 128 ∷ 255 ∷ []) (eighth Off 0) (float 4) is 3)
    ∷ (calls (3 ∷ 4 ∷ 8 ∷ 128 ∷ 255 ∷ []) (eighth Off 0) (float 5) is 4)
    ∷ (calls (3 ∷ 4 ∷ 8 ∷ 128 ∷ 255 ∷ []) (eighth Off 0) (float 8) is 4)
    ∷ (calls (3 ∷ 4 ∷ 8 ∷ 128 ∷ 255 ∷ []) (eighth Off 0) (float 36) is 5)
    ∷ (calls (3 ∷ 4 ∷ 8 ∷ 128 ∷ 255 ∷ []) (eighth Off 0) (float 37) is 5)
    -- "the usable one of greatest capacity, first of equals"
    ∷ (calls (3 ∷ 4 ∷ 1 ∷ []) (eighth Off 0) (float 10) is 1)
    ∷ (calls (1 ∷ 4 ∷ 3 ∷ []) (eighth Off 0) (float 10) is 2)
    ∷ (calls (1 ∷ 3 ∷ 4 ∷ 8 ∷ 2 ∷ []) (eighth Off 0) (float 10) is 4)
    ∷ (calls (255 ∷ 3 ∷ 7 ∷ []) (eighth Off 1) (float 100) is 3)
    -- the least rating, 1 W, is a capacity too
    ∷ (calls (1 ∷ []) (eighth Off 0) (float 10) is 1)
    -- "none of its sets is due (interval > 0, clock >= interval) or in Service": of set 8 at clock 0 and 1
    ∷ (calls (128 ∷ 255 ∷ 3 ∷ []) (eighth Off 0) (float 1) is 1)
    ∷ (calls (128 ∷ 255 ∷ 3 ∷ []) (eighth Off 1) (float 1) is 3)
    ∷ (calls (128 ∷ 255 ∷ 3 ∷ []) (eighth On 2) (float 1) is 3)
    ∷ (calls (128 ∷ 255 ∷ 3 ∷ []) (eighth (Service 1) 0) (float 1) is 3)
    ∷ (calls (128 ∷ 255 ∷ 3 ∷ []) (eighth (Warming 1) 0) (float 1) is 1)
    ∷ (calls (128 ∷ 255 ∷ 3 ∷ []) (eighth (Cooling 1) 0) (float 1) is 1)
    -- "else 0"
    ∷ (calls (128 ∷ 255 ∷ []) (eighth Off 1) (float 1) is 0)
    -- a held setpoint that is no number is covered by none, one below zero by all
    ∷ (calls (3 ∷ 4 ∷ 8 ∷ 2 ∷ []) (eighth Off 0) nan is 3)
    ∷ (calls (3 ∷ 4 ∷ 8 ∷ 2 ∷ []) (eighth Off 0) (inf false) is 3)
    ∷ (calls (3 ∷ 4 ∷ 8 ∷ 2 ∷ []) (eighth Off 0) (inf true) is 1)
    -- "called fewer than "minimum seconds" seconds ago"
    ∷ (keeps 3 2 10 10 is 2)
    ∷ (keeps 3 2 10 12 is 2)
    ∷ (keeps 3 2 10 13 is 1)
    ∷ (keeps 3 3 10 12 is 3)
    ∷ (keeps 0 2 10 10 is 1)
    ∷ (keeps 1 2 10 10 is 2)
    ∷ (keeps 1 2 10 11 is 1)
    -- "0 calls no set and is never usable": nothing is kept
    ∷ (calls (1 ∷ []) (eighth Off 0) (float 0) is 1)
    ∷ (keeps 3 0 10 11 is 1)
    -- "Keep the called one exactly if usable, covering": of 2 W, with set 2 at clock 4 and 5 of its interval 5
    ∷ (keeps_at (float 2) (state Off 4) is 2)
    ∷ (keeps_at (float 3) (state Off 4) is 3)
    ∷ (keeps_at (float 1) (state Off 5) is 1)
    ∷ (keeps_at (float 1) (state (Service 1) 4) is 1)
    ∷ (keeps_at nan (state Off 4) is 3)
    -- a configuration's mask by its number
    ∷ (mask_called (5 ∷ 6 ∷ []) 0 is 0)
    ∷ (mask_called (5 ∷ 6 ∷ []) 1 is 5)
    ∷ (mask_called (5 ∷ 6 ∷ []) 2 is 6)
    ∷ (mask_called (5 ∷ 6 ∷ []) 3 is 0)
    -- "The since-second changes only when the number does."
    ∷ (since_after 2 2 5 9 is 5)
    ∷ (since_after 3 2 5 9 is 9)
    ∷ []

pub held-edges : held_given ≡ held_said
unfolding Setpoint.float Setpoint.thousandths Setpoint.filter_of Setpoint.filtered Setpoint.held_after Ieee.span Ieee.climb Ieee.size Ieee.odd Ieee.units Ieee.round Ieee.sum Ieee.add Ieee.mul Ieee.div Ieee.of_int
held-edges = refl

pub call-edges : given (reserve_edges ++ call_edges) ≡ said (reserve_edges ++ call_edges)
unfolding Numbers.sum_to Numbers.all_to StationRecord.past_end StationRecord.set_at Share.running_total Share.capacity Modes.state_at Modes.due Setpoint.coverage_of Setpoint.reserve Setpoint.wanted_for Setpoint.float Setpoint.covers Configuration.mask_called Configuration.usable Configuration.usable_covering Configuration.first_covering Configuration.greatest_usable Configuration.chosen Ieee.span Ieee.climb Ieee.size Ieee.odd Ieee.units Ieee.round Ieee.lt Ieee.eq Ieee.le Ieee.of_int
call-edges = refl
