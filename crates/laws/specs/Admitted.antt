-- Document 01, "A second: 25, 24, 23, 19, 20, 26.": what is known of a second that none of these refuses but, perhaps, 26.
use Rattle.std.specs.Prelude.{◌≤◌, ◌<◌, ◌≡◌, true}
use Rattle.rules.specs.declared.station.Station.{Station}
use Rattle.rules.specs.declared.run.Inputs.{Inputs}
use Rattle.rules.specs.declared.run.Run.{Run}
use Rattle.rules.specs.StationRecord.{some_file_gives}
use Rattle.rules.specs.RunRecord.{most_seconds, possible}

pub record Admitted (st : Station) (r : Run) (x : Inputs) : Type 0 where
  pub station-given : some_file_gives st ≡ true
  pub record-possible : possible st r ≡ true
  pub not-ended : r.done < most_seconds
  pub load-most : x.load ≤ 50_000_000
  pub solar-most : x.solar ≤ 50_000_000
  pub sheddable-most : x.sheddable ≤ 50_000_000
  pub sheddable-load : x.sheddable ≤ x.load
