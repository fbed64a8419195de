-- `words::masks::existing_only` meets its contract. Assumes nothing.
use Rattle.words.proofs.MaskTests.{none_above, all_there}
use borrow.Author.Rules.{rules}
use Rattle.words.proofs.masks.existing_only.Goals as goal

pub returns-then-setcount-ge64 : goal.returns-then-setcount-ge64
returns-then-setcount-ge64 c = all_there c.args.setcount c.args.mask (search rules) (search rules)

pub returns : goal.returns
returns c = none_above c.args.setcount c.args.mask
