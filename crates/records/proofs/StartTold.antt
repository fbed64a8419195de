-- What the start of a run answers, where some file gives the station record and where none does. Assumes nothing.
use mathlib.Core.Path.{◌≡◌}
use mathlib.Core.Bool.{true, false}
use Rattle.rules.specs.declared.station.Station.{Station}
use Rattle.rules.specs.Answers.{accepted, refused}
use Rattle.rules.specs.StationRecord.{some_file_gives}
use Rattle.rules.specs.RunRecord.{start_record, start}

module _ (st : Station) where
  pub start-refused : some_file_gives st ≡ false → start st ≡ refused 25 0
  unfolding start
  start-refused h = rw h

  pub start-accepted : some_file_gives st ≡ true → start st ≡ accepted (start_record st)
  unfolding start
  start-accepted h = rw h
