-- Document 01, step 10: the configuration called.
use Rattle.std.specs.Prelude.{ℕ, zero, suc, ◌-◌, Bool, not, ◌&&◌, ◌||◌, List, [], ◌∷◌, get_or, take, ltb, eqb, Float, if◌then◌else◌}
use Rattle.rules.specs.declared.station.GenSet.{GenSet}
use Rattle.rules.specs.declared.station.Station.{Station}
use Rattle.rules.specs.declared.run.SetState.{SetState}
use Rattle.rules.specs.Numbers.{has, all_to}
use Rattle.rules.specs.StationRecord.{set_at}
use Rattle.rules.specs.Share.{capacity}
use Rattle.rules.specs.Modes.{state_at, due, in_service}
use Rattle.rules.specs.Setpoint.{covers}

-- a configuration's mask by its number: "0 calls no set"
unfoldable pub mask_called : List ℕ → ℕ → ℕ
mask_called configs zero = 0
mask_called configs (suc j) = get_or configs j 0

-- "0 .. is never usable. Usable: none of its sets is due .. or in Service."
unfoldable pub usable : List GenSet → List SetState → ℕ → Bool
usable sets states mask =
    ltb 0 mask
    && all_to 8 (λ i. not (has mask i) || not (due (set_at sets i) (state_at states i) || in_service (state_at states i).mode))

unfoldable pub usable_covering : List GenSet → List SetState → Float → ℕ → Bool
usable_covering sets states held mask = usable sets states mask && covers held (capacity sets mask)

-- "the first usable covering": its number, of the configurations after the first n, and 0 where none is
unfoldable pub first_covering : List GenSet → List SetState → Float → ℕ → List ℕ → ℕ
first_covering sets states held n [] = 0
first_covering sets states held n (mask ∷ masks) =
    if usable_covering sets states held mask then suc n else first_covering sets states held (suc n) masks

-- "the usable one of greatest capacity, first of equals": its number, of the configurations after the first n, where
-- `best` of the capacity `most` is the greatest of those
unfoldable pub greatest_usable : List GenSet → List SetState → ℕ → ℕ → ℕ → List ℕ → ℕ
greatest_usable sets states best most n [] = best
greatest_usable sets states best most n (mask ∷ masks) =
    let better = usable sets states mask && ltb most (capacity sets mask) in
    greatest_usable sets states (if better then suc n else best) (if better then capacity sets mask else most) (suc n) masks

-- "Keep the called one exactly if usable, covering and called fewer than "minimum seconds" seconds ago. Else the first
-- usable covering; else the usable one of greatest capacity, first of equals; else 0."
unfoldable pub chosen : Station → List SetState → Float → ℕ → ℕ → ℕ → ℕ
chosen st states held called since now =
    let masks = take st.configcount st.configs in
    let first = first_covering st.sets states held 0 masks in
    let keep =
    usable_covering st.sets states held (mask_called st.configs called)
    && ltb (now - since) st.control.minseconds in
    if keep then called else
    if ltb 0 first then first else
    greatest_usable st.sets states 0 0 0 masks

-- "The since-second changes only when the number does."
abbrev pub since_after : ℕ → ℕ → ℕ → ℕ → ℕ
since_after call called since now = if eqb call called then since else now
