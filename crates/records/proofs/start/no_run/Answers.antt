-- `records::start::no_run` meets its contract. Assumes nothing.
use Rattle.records.specs.NoRun.{no_run}
use Rattle.records.proofs.start.no_run.Goals as goal

pub returns : goal.returns
unfolding no_run
returns c = rw (c.at_start.ensures, c.fresh.ensures)
