-- `judge_asks` meets its contract. Assumes nothing.

use Rattle.judging.proofs.state.judge_asks.Goals as goal

pub returns-in-ReadStation : goal.returns-in-ReadStation
returns-in-ReadStation c = rw c.in-ReadStation.is

pub returns-in-ReadSamples : goal.returns-in-ReadSamples
returns-in-ReadSamples c = rw c.in-ReadSamples.is

pub returns-in-Judged : goal.returns-in-Judged
returns-in-Judged c = rw c.in-Judged.is

pub returns-in-Stopped : goal.returns-in-Stopped
returns-in-Stopped c = rw c.in-Stopped.is
