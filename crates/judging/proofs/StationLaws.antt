-- What the reading of the station file keeps. Assumes nothing.
use Prim.Native.Nat.{ℕ, ◌<◌}
use mathlib.Core.Path.{◌≡◌, refl, sym, ap, ◌∙◌}
use mathlib.Core.Bool.{true}
use mathlib.Core.List.{List, [], ◌∷◌, ◌++◌}
use native.Mathlib.Omega.{arith}
use lib.ListN.{length, take, drop}
use Rattle.rules.specs.StationFile.{station_file}
use Rattle.rules.proofs.Tests.{never}
use Rattle.station.specs.declared.chunks.StationBytes.{StationBytes}
use Rattle.station.specs.Stations.{station_with, is_refused}
use Rattle.exchange.specs.declared.event.Event.{Event}
use Rattle.exchange.specs.World.{World, left_of, again_of, with_file}
use Rattle.judging.specs.declared.state.JudgeStage.{JudgeStage}
use Rattle.judging.specs.declared.state.Held.{Held}
use Rattle.judging.specs.Stages.{Judging}
use Rattle.judging.specs.Holds.{Files, Opening, JudgesFrom, EndsStation, EntersStation}
use Rattle.judging.proofs.StopLaws.{less-left}

abbrev pub with_station : Held → StationBytes → ℕ → Held
with_station h f size = record { twice = h.twice; file = f; size = size; check = h.check; tally = h.tally }

-- `more_station` was handed a chunk, and gave f
abbrev pub FedStation : Held → List ℕ → StationBytes → Type 0
FedStation h chunk f = (rest : List ℕ) → station_with h.file (chunk ++ rest) ≡ station_with f rest

opening-with : (g : Files) (h : Held) (w : World) (left other : List ℕ) → station_with h.file left ≡ station_with h.file other → Opening g h w other → Opening g h w left
opening-with g h w left other e o = record { station = e ∙ o.station; check = o.check; tally = o.tally; ahead = o.ahead }

station-on : (g : Files) (h : Held) (w : World) (f : StationBytes) (size : ℕ) (chunk left : List ℕ) → FedStation h chunk f → Opening g h w (chunk ++ left) → Opening g (with_station h f size) w left
station-on g h w f size chunk left fed o = record { station = sym (fed left) ∙ o.station; check = o.check; tally = o.tally; ahead = o.ahead }

-- a chunk, and the file is read on
pub station-enters : (h : Held) (chunk : List ℕ) (f : StationBytes) (size : ℕ) → FedStation h chunk f → EntersStation h chunk (record { stage = JudgeStage.ReadStation; held = with_station h f size })
unfolding EntersStation
station-enters h chunk f size fed g w o = (station-on g h w f size chunk (left_of w 1) fed o, omega arith, λ well. refl)

-- a file that is too long is not
pub station-cut : (h : Held) (chunk : List ℕ) (f : StationBytes) (size : ℕ) (r : Judging) → FedStation h chunk f
    → ((rest : List ℕ) → station_with f [] ≡ station_with f rest) → EndsStation (with_station h f size) r → EntersStation h chunk r
unfolding EndsStation EntersStation
station-cut h chunk f size r fed long ends g w o =
    let k = ends g w (opening-with g (with_station h f size) w [] (left_of w 1) (long (left_of w 1)) (station-on g h w f size chunk (left_of w 1) fed o)) in
    (k.0, let less = k.1 in omega (arith, less), λ well. k.2 tt)

-- a refused station needs no samples
pub station-refused : (h : Held) → is_refused (station_with h.file []) ≡ true → EndsStation h (record { stage = JudgeStage.Judged; held = h })
unfolding EndsStation
station-refused h e g w o =
    let r : is_refused (station_file g.station) ≡ true = ap is_refused (sym o.station) ∙ e in (
      record { station = o.station; check = λ st p. never (ap is_refused (sym p) ∙ r); tally = λ st span p q. never (ap is_refused (sym p) ∙ r); later = λ st p. never (ap is_refused (sym p) ∙ r) },
      omega arith,
      λ well. refl,
    )

-- an accepted one needs them
pub station-accepted : (h : Held) → EndsStation h (record { stage = JudgeStage.OpenSamples; held = h })
unfolding EndsStation
station-accepted h g w o = (o, omega arith, λ well. refl)

-- ---- the steps from the stage

pub station-read-steps : (h : Held) (n : ℕ) (buf chunk : List ℕ) (r : Judging) → chunk ≡ take n buf → EntersStation h chunk r → JudgesFrom JudgeStage.ReadStation h (Event.Read n) buf r
unfolding JudgesFrom EntersStation
station-read-steps h n buf chunk r is enters g w before out some o f =
    let w' : World = with_file w 1 (drop n (left_of w 1) ∷ again_of w 1) in
    let left : left_of w 1 ≡ chunk ++ drop n (left_of w 1) = f.0.2 ∙ ap (λ (l : List ℕ). l ++ drop n (left_of w 1)) (sym is) in
    let fewer : length (drop n (left_of w 1)) < length (left_of w 1) = less-left n buf (left_of w 1) f.0.0 (let h = f.0.1 in omega (arith, h)) f.0.2 in
    let k = enters g w' (record { station = ap (station_with h.file) (sym left) ∙ o.station; check = o.check; tally = o.tally; ahead = o.ahead }) in
    (k.0, let less = k.1 in omega (arith, less, fewer), λ well. k.2 tt)

pub station-end-steps : (h : Held) (buf : List ℕ) (r : Judging) → EndsStation h r → JudgesFrom JudgeStage.ReadStation h Event.End buf r
unfolding JudgesFrom EndsStation
station-end-steps h buf r ends g w before out some o f =
    let k = ends g w (opening-with g h w [] (left_of w 1) (ap (station_with h.file) (sym f.0)) o) in
    (k.0, let less = k.1 in omega (arith, less), λ well. k.2 tt)
