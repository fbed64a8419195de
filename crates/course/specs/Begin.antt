-- Document 01, what a run begins with: "station first", then the samples; the seconds asked "after the files".
use Rattle.std.specs.Prelude.{ℕ, ◌≡◌, List, Result, IsOkAnd}
use Rattle.rules.specs.declared.answers.Refusal.{Refusal}
use Rattle.rules.specs.declared.run.Run.{Run}
use Rattle.rules.specs.declared.station.Station.{Station}
use Rattle.rules.specs.Answers.{Answer, accepted, refused, result_of, value_or}
use Rattle.rules.specs.RunRecord.{start}
use Rattle.rules.specs.SampleFile.{before_all}
use Rattle.records.specs.NoRun.{no_run}
use Rattle.samples.specs.declared.check.Span.{Span}
use Rattle.rows_in_force.specs.declared.in_force.Ahead.{Ahead}
use Rattle.sheet_stages.specs.ToCome.{file_rows}
use Rattle.input_source.specs.Source.{source_rows}
use Rattle.course.specs.declared.state.Course.{Course}

-- it stands before second 0, with this record, with so many seconds to work and the whole sample file to come
pub record Before (st : Station) (run : Run) (seconds : ℕ) (c : Course) : Type 0 where
  pub station-is : c.station ≡ st
  pub run_is : c.run ≡ run
  pub left_is : c.left ≡ seconds
  pub rows : (rest : List ℕ) → source_rows c.source rest ≡ file_rows rest
  pub now-is : c.source.now ≡ before_all
  pub ahead-is : c.source.ahead ≡ Ahead.Unread

-- by what the station file, the sample file and the seconds asked come to, in this order: the course, or whichever was refused
abbrev pub BegunAs : Answer Station → Answer Span → Answer ℕ → Result Course Refusal → Type 0
BegunAs (refused number place) samples asked r = result_of r ≡ refused number place
BegunAs (accepted st) (refused number place) asked r = result_of r ≡ refused number place
BegunAs (accepted st) (accepted span) (refused number place) r = result_of r ≡ refused number place
BegunAs (accepted st) (accepted span) (accepted seconds) r = IsOkAnd r (Before st (value_or no_run (start st)) seconds)
