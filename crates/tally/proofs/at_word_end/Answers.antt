-- `tally::at_word_end` meets its contract. Assumes nothing.
use Rattle.std.proofs.Common.{arith}
use Rattle.tally.proofs.TallyLaws.{at-word-end-early, at-word-end-last}
use Rattle.tally.proofs.at_word_end.Goals as goal

pub returns-in-0-to-2 : goal.returns-in-0-to-2
returns-in-0-to-2 c = at-word-end-early c.args.place c.args.sum (omega arith)

pub returns-in_default : goal.returns-in_default
returns-in_default c =
    at-word-end-last c.args.place c.args.sum (omega arith)
