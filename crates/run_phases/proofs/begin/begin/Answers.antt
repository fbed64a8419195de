-- `begin` meets its contract. Assumes nothing.
use mathlib.Core.List.{[]}
use Rattle.rules.specs.Answers.{result_of}
use Rattle.rules.specs.Run.{seconds_asked}
use Rattle.station.specs.Stations.{station_with}
use Rattle.run_phases.proofs.BeginLaws.{begun-refused}
use Rattle.run_phases.proofs.begin.begin.Goals as goal

pub returns-in-Err : goal.returns-in-Err
returns-in-Err c = begun-refused (station_with c.args.file []) (result_of c.args.checked) (seconds_asked c.args.asked.now) c.in-Err.refusal _ c.in-Err.ensures c.no_course.ensures
