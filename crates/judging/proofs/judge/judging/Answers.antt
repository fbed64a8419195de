-- `judging` meets its contract. Assumes nothing.
use Rattle.judging.proofs.StepLaws.{nothing_read}
use mathlib.Core.Path.{refl}
use Rattle.judging.proofs.judge.judging.Goals as goal

pub returns : goal.returns
returns c = nothing_read _ _ refl c.station_bytes.ensures c.check.ensures c.no_bytes.ensures
