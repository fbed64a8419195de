-- `samples::check::check_samples` meets its contract. Assumes nothing.
use borrow.Author.Rules.{rules}
use Rattle.samples.proofs.CheckLaws.{whole-file}
use Rattle.samples.proofs.check.check_samples.Goals as goal

pub returns : goal.returns
returns c =
    whole-file _ _ _ c.check.ensures c.feed.ensures (search rules) c.finish.result c.finish.ensures
