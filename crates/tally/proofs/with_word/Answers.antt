-- `tally::with_word` meets its contract. Assumes nothing.
use Rattle.std.proofs.Common.{refl, ◌∙◌, rules, arith}
use Rattle.tally.proofs.TallyLaws.{tally-word}
use Rattle.tally.proofs.with_word.Goals as goal

pub returns : goal.returns
returns c =
    let word = c.from.ensures ∙ c.from_le_bytes.ensures in
    tally-word c.args.before c.args.word _ _ _ (search rules) (omega (arith, word)) refl refl
