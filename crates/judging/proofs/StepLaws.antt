-- What the steps between the readings keep, and what holds at the start. Assumes nothing.
use Prim.Native.Nat.{ℕ}
use mathlib.Core.Path.{◌≡◌, refl, sym, ap, ◌∙◌, subst}
use mathlib.Core.Bool.{Bool, true, false}
use mathlib.Core.List.{List, [], ◌∷◌}
use native.Mathlib.Omega.{arith}
use lib.ListN.{length}
use Rattle.rules.specs.StationFile.{station_file}
use Rattle.rules.proofs.Tests.{never}
use Rattle.tally.specs.declared.Tally.{Tally}
use Rattle.station.specs.Stations.{station_with}
use Rattle.tally.specs.Tally.{no_bytes, tallied_of}
use Rattle.sheet_stages.specs.ToCome.{placed}
use Rattle.samples.specs.Streamed.{sheet_span, checked_with}
use Rattle.exchange.specs.declared.action.Why.{Why}
use Rattle.exchange.specs.declared.event.Event.{Event}
use Rattle.exchange.specs.World.{World, left_in, again_in, left_of, again_of, with_file}
use Rattle.judging.specs.declared.state.JudgeStage.{JudgeStage}
use Rattle.judging.specs.declared.state.Held.{Held}
use Rattle.judging.specs.Stages.{moved_by, opened_by}
use Rattle.judging.specs.Holds.{Files, Ahead, Opening, Checking, JudgesFrom, Begins}

-- ---- nothing is read yet

pub nothing_read : (twice : Bool) (h : Held) → h.twice ≡ twice → ((rest : List ℕ) → station_with h.file rest ≡ station_file rest)
    → ((rest : List ℕ) → checked_with h.check rest ≡ placed (sheet_span rest)) → h.tally ≡ no_bytes → Begins twice (record { stage = JudgeStage.OpenStation; held = h })
nothing_read twice h same file check tally =
    record {
      stage_is = refl;
      holds = λ g w u. record { station = file (left_of w 1) ∙ ap station_file u.station; check = check g.samples; tally = tally; ahead = subst (λ (b : Bool). Ahead b g (w.files 2)) (sym same) u.ahead };
    }

-- ---- the first pass begins

checking-from : (g : Files) (h : Held) (w w' : World) → Opening g h w [] → left_of w' 2 ≡ g.samples → again_of w' 2 ≡ g.later → Checking g h w' (left_of w' 2)
checking-from g h w w' o left later =
    record {
      station = o.station;
      check = ap (checked_with h.check) left ∙ o.check;
      tally = ap (tallied_of h.tally) left ∙ ap (λ (t : Tally). tallied_of t g.samples) o.tally;
      later = later;
    }

pub open-station : (h : Held) (e : Event) (buf : List ℕ) → JudgesFrom JudgeStage.OpenStation h e buf (moved_by e h JudgeStage.ReadStation (Why.Unopened 1))
unfolding JudgesFrom
open-station h Event.Done buf g w before out some o f = (o, omega arith, λ well. refl)
open-station h (Event.Count n) buf g w before out some o f = absurd f.0
open-station h (Event.Read n) buf g w before out some o f = absurd f.0
open-station h Event.End buf g w before out some o f = absurd f.0
open-station h Event.Failed buf g w before out some o f = (tt, omega arith, λ well. never (sym well))

pub open-samples : (b : Bool) (h : Held) (e : Event) (buf : List ℕ) → h.twice ≡ b → JudgesFrom JudgeStage.OpenSamples h e buf (opened_by b e h)
unfolding JudgesFrom
open-samples true h Event.Done buf is g w before out some o f = ((o, is), omega arith, λ well. refl)
open-samples false h Event.Done buf is g w before out some o f =
    let ahead : Ahead false g (w.files 2) = subst (λ (b : Bool). Ahead b g (w.files 2)) is o.ahead in
    let same : length (left_of w 2) ≡ length g.samples = ap length ahead.0 in
    (checking-from g h w w o ahead.0 ahead.1, omega (arith, same), λ well. refl)
open-samples true h (Event.Count n) buf is g w before out some o f = absurd f.0
open-samples true h (Event.Read n) buf is g w before out some o f = absurd f.0
open-samples true h Event.End buf is g w before out some o f = absurd f.0
open-samples true h Event.Failed buf is g w before out some o f = (tt, omega arith, λ well. never (sym well))
open-samples false h (Event.Count n) buf is g w before out some o f = absurd f.0
open-samples false h (Event.Read n) buf is g w before out some o f = absurd f.0
open-samples false h Event.End buf is g w before out some o f = absurd f.0
open-samples false h Event.Failed buf is g w before out some o f = (tt, omega arith, λ well. never (sym well))

pub to_start : (h : Held) (e : Event) (buf : List ℕ) → JudgesFrom JudgeStage.ToStart h e buf (moved_by e h JudgeStage.ReadSamples (Why.ReadOnce 2))
unfolding JudgesFrom
to_start h Event.Done buf g w before out some o f =
    let ahead : again_of w 2 ≡ g.samples ∷ g.later = subst (λ (b : Bool). Ahead b g (w.files 2)) o.1 o.0.ahead in
    let left : left_in (again_of w 2) ≡ g.samples = ap left_in ahead in
    let same : length (left_in (again_of w 2)) ≡ length g.samples = ap length left in
    (checking-from g h w (with_file w 2 (again_of w 2)) o.0 left (ap again_in ahead), omega (arith, same), λ well. refl)
to_start h (Event.Count n) buf g w before out some o f = absurd f.0
to_start h (Event.Read n) buf g w before out some o f = absurd f.0
to_start h Event.End buf g w before out some o f = absurd f.0
to_start h Event.Failed buf g w before out some o f = (tt, omega arith, λ well. never (sym well))
