-- The record at the start of a run is possible, for every station record that some file gives. Assumes nothing.
use Rattle.std.specs.Prelude.{if◌then◌else◌}
use Prim.Native.Nat.{ℕ, ◌*◌, ◌^◌, ◌<◌}
use mathlib.Core.Path.{◌≡◌, refl, sym}
use mathlib.Core.Bool.{Bool, true, false}
use mathlib.Core.List.{List}
use native.Mathlib.Omega.{arith}
use lib.Dec.{leb, ltb}
use lib.ListN.{replicate, get_or-replicate}
use borrow.Author.Tests.{le-leb, ltb-true, ltb-false}
use Rattle.rules.specs.declared.station.GenSet.{GenSet}
use Rattle.rules.specs.declared.station.Station.{Station}
use Rattle.rules.specs.declared.run.Mode.{Mode}
use Rattle.rules.specs.declared.run.Mode.TheVariants.{Off, On}
use Rattle.rules.specs.Numbers.{has, tab, every}
use Rattle.rules.specs.StationRecord.{set_at, some_file_gives}
use Rattle.rules.specs.Modes.{fresh, state_at}
use Rattle.rules.specs.RunRecord.{start_record, mode_possible, counts_possible, state_possible, states_possible, decided_possible, possible}
use Rattle.rules.proofs.Tests.{never, and-true, to-all, fact-within}
use Rattle.rules.proofs.Tables.{tab-at, has-beyond}
use Rattle.rules.proofs.StationFacts.{right_of, online-existing, least_start, start-most}

zero-within : (n : ℕ) → leb 0 n ≡ true
zero-within n = le-leb 0 n (omega arith)

-- a set that exists, On or Off
mode-possible : (g : GenSet) (b : Bool) → mode_possible g (if b then On else Off) ≡ true
mode-possible g true = refl
mode-possible g false = refl

counts-possible : (g : GenSet) (m : Mode) → counts_possible g (fresh m) 0 ≡ true
counts-possible g m = and-true (and-true refl (zero-within (g.rating * 0))) refl

-- the set at a place, whose test of being there is `exists`
state-possible : (exists named : Bool) (g : GenSet) → (exists ≡ false → named ≡ false) → state_possible exists g (fresh (if named then On else Off)) 0 ≡ true
unfolding state_possible every
state-possible true named g h = and-true (mode-possible g named) (counts-possible g (if named then On else Off))
state-possible false true g h = never (sym (h refl))
state-possible false false g h = refl

states-possible : (n mask : ℕ) (sets : List GenSet) → mask < 2 ^ n → states_possible n sets (tab 8 (λ i. fresh (if has mask i then On else Off))) 0 ≡ true
unfolding states_possible state_at
states-possible n mask sets h =
    to-all _ 8
    λ i l. rw (tab-at (λ j. fresh (if has mask j then On else Off)) 8 i (fresh Off) l) (state-possible (ltb i n) (has mask i) (set_at sets i) (λ e. has-beyond n mask i h (ltb-false i n e)))

decided-possible : (delay : ℕ) → decided_possible delay (replicate 60 0) ≡ true
unfolding decided_possible
decided-possible delay =
    to-all _ 60 λ j l. rw (get_or-replicate {A = ℕ} 60 j 0 0 l) (zero-within (if ltb j delay then 50_000_000 else 0))

pub start-possible : (st : Station) → some_file_gives st ≡ true → possible st (start_record st) ≡ true
unfolding possible start_record
start-possible st h =
    let r = right_of st h in
    let store = fact-within st.battery.least st.battery.most st.battery.start (least_start st.battery r.battery) (start-most st.battery r.battery) in
    let online = ltb-true st.control.online (2 ^ st.setcount) (online-existing st.setcount st.control r.control) in
    and-true
    (and-true
    (and-true (and-true (and-true store (zero-within st.configcount)) refl) (states-possible st.setcount st.control.online st.sets online))
    refl)
    (decided-possible st.control.delay)
