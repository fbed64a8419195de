-- `answer` meets its contract. Assumes nothing.
use Rattle.check_machine.proofs.PutLaws.{accepts-station, refuses-station}
use Rattle.check_machine.proofs.answer.answer.Goals as goal

pub returns-in-Ok : goal.returns-in-Ok
returns-in-Ok c = accepts-station c.args.held _ _ _ c.station_of.result c.station_of.ensures _ c.in-Ok.is c.answer_samples.ensures

pub returns-in-Err : goal.returns-in-Err
returns-in-Err c = refuses-station c.args.held _ _ _ c.station_of.result c.station_of.ensures _ c.in-Err.is c.refuse.ensures
