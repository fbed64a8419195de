-- What a run begins with, by what its course begins with. Assumes nothing.
use Rattle.std.specs.Prelude.{Err}
use Prim.Native.Nat.{ℕ}
use mathlib.Core.Path.{◌≡◌, refl}
use Rattle.rules.specs.declared.answers.Refusal.{Refusal}
use Rattle.rules.specs.declared.station.Station.{Station}
use Rattle.rules.specs.Answers.{Answer, accepted, refused, number_and_place, refusal_of}
use Rattle.rules.specs.StationRecord.{no_station}
use Rattle.records.specs.NoRun.{no_run}
use Rattle.samples.specs.declared.check.Span.{Span}
use Rattle.course.specs.declared.state.Course.{Course}
use Rattle.course.specs.Begin as course
use Rattle.course.specs.Begin.{Before}
use Rattle.run_phases.specs.declared.state.Phase.{Phase}
use Rattle.run_phases.specs.Begin.{Refuses, BegunAs}

-- a refusal in the paper's numbers, with the course of no station
refuses : (n p : ℕ) (refusal : Refusal) (none : Course) → refusal_of {A = Course} refusal ≡ refused n p → Before no_station no_run 0 none → Refuses n p (record { phase = Phase.Refusal refusal; course = none })
refuses n p refusal none told b =
    let a : (number_and_place refusal).0 ≡ n = cc in
    let c : (number_and_place refusal).1 ≡ p = cc in
    record { refusal = refusal; phase-is = refl; number_is = a; place_is = c; nothing = b }

pub begun-refused : (a : Answer Station) (s : Answer Span) (q : Answer ℕ) (refusal : Refusal) (none : Course) → course.BegunAs a s q (Err refusal) → Before no_station no_run 0 none
    → BegunAs a s q (record { phase = Phase.Refusal refusal; course = none })
begun-refused (refused n p) s q refusal none h b = refuses n p refusal none h b
begun-refused (accepted st) (refused n p) q refusal none h b = refuses n p refusal none h b
begun-refused (accepted st) (accepted span) (refused n p) refusal none h b = refuses n p refusal none h b
begun-refused (accepted st) (accepted span) (accepted n) refusal none h b = absurd h
