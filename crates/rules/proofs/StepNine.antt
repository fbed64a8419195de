-- Document 01, step 9, at numbers that no worked case has: a reserve that decides, with live load, and a filter that keeps half. By
-- computation. Assumes nothing.
use Rattle.std.specs.Prelude.{Some, None}
use Prim.Native.Nat.{ℕ}
use mathlib.Core.Path.{◌≡◌, refl}
use mathlib.Core.List.{List, [], ◌∷◌}
use lib.Ieee.{Float}
use lib.Ieee
use Rattle.rules.specs.declared.station.Control.{Control}
use Rattle.rules.specs.Setpoint.{coverage_of, reserve, wanted_for, float, thousandths, filter_of, filtered, held_after}

control : ℕ → ℕ → Control
control spinning maintain = record { spinning = spinning; coverage = 50; minload = 0; shed = 0; delay = 1; k = 500; minseconds = 0; maintain = maintain; online = 0 }

-- R 40,000 W, solar on load 10,001 W, so that coverage is 5,001 W; H 5,000 W, of which 2,000 W are off, so that 3,000 W are live
wanted : ℕ → ℕ → ℕ
wanted spinning maintain = wanted_for (control spinning maintain) 40000 10001 2000 5000

wanted-decides : ◌≡◌ {A = List ℕ} (wanted 10000 0 ∷ wanted 1000 0 ∷ wanted 10000 1 ∷ wanted 1000 1 ∷ []) (47000 ∷ 42001 ∷ 50000 ∷ 42001 ∷ [])
unfolding wanted control wanted_for reserve coverage_of
wanted-decides = refl

-- "With none held, held becomes wanted"; else with k 250 a quarter of 32,000 and three quarters of 76,000
held-follows : ◌≡◌ {A = List Float} (held_after 250 None 76000 ∷ held_after 250 (Some (float 32000)) 76000 ∷ held_after 0 (Some (float 32000)) 76000 ∷ []) (float 76000 ∷ float 65000 ∷ float 76000 ∷ [])
unfolding held_after filtered filter_of thousandths float Ieee.span Ieee.climb Ieee.size Ieee.odd Ieee.units Ieee.round Ieee.sum Ieee.add Ieee.mul Ieee.div Ieee.lt Ieee.eq Ieee.le Ieee.of_int
held-follows = refl
