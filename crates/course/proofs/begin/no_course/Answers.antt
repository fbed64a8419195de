-- `no_course` meets its contract. Assumes nothing.
use Rattle.course.proofs.BeginLaws.{before-nothing}
use Rattle.course.proofs.begin.no_course.Goals as goal

pub returns : goal.returns
returns c = before-nothing _ _ c.no_station.ensures c.at_start.ensures
