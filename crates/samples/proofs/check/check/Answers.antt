-- `samples::check::check` meets its contract. Assumes nothing.
use Rattle.samples.proofs.CheckLaws.{from-reader}
use Rattle.samples.proofs.check.check.Goals as goal

pub returns : goal.returns
returns c = λ rest. from-reader _ rest (c.reader.ensures rest)
