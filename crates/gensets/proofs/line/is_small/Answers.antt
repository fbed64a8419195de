-- `line::is_small` meets its contract: it asks the limits in their order. Assumes nothing.
use borrow.Author.Rules.{rules}
use Rattle.gensets.specs.Lines.{line_small}
use Rattle.gensets.proofs.line.is_small.Goals as goal

pub returns : goal.returns
unfolding line_small
returns c = search rules
