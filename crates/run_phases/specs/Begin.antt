-- Document 01, what a run begins with: "station first", then the samples; the seconds asked "after the files".
use Rattle.std.specs.Prelude.{ℕ, ◌≡◌}
use Rattle.rules.specs.declared.answers.Refusal.{Refusal}
use Rattle.rules.specs.declared.station.Station.{Station}
use Rattle.rules.specs.Answers.{Answer, accepted, refused, number_and_place, value_or}
use Rattle.rules.specs.StationRecord.{no_station}
use Rattle.rules.specs.RunRecord.{start}
use Rattle.records.specs.NoRun.{no_run}
use Rattle.samples.specs.declared.check.Span.{Span}
use Rattle.course.specs.Begin.{Before}
use Rattle.run_phases.specs.declared.state.Phase.{Phase}
use Rattle.run_phases.specs.declared.state.Simulation.{Simulation}

-- all that it prints is this refusal, whichever was refused
pub record Refuses (number place : ℕ) (s : Simulation) : Type 0 where
  pub refusal : Refusal
  pub phase-is : s.phase ≡ Phase.Refusal refusal
  pub number_is : (number_and_place refusal).0 ≡ number
  pub place_is : (number_and_place refusal).1 ≡ place
  pub nothing : Before no_station no_run 0 s.course

-- it stands before second 0, with so many seconds to work
pub record Starting (st : Station) (seconds : ℕ) (s : Simulation) : Type 0 where
  pub phase-is : s.phase ≡ Phase.Heading
  pub course-is : Before st (value_or no_run (start st)) seconds s.course

-- by what the station file, the sample file and the seconds asked come to, in this order
abbrev pub BegunAs : Answer Station → Answer Span → Answer ℕ → Simulation → Type 0
BegunAs (refused number place) samples asked s = Refuses number place s
BegunAs (accepted st) (refused number place) asked s = Refuses number place s
BegunAs (accepted st) (accepted span) (refused number place) s = Refuses number place s
BegunAs (accepted st) (accepted span) (accepted seconds) s = Starting st seconds s
