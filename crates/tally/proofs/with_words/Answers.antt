-- `tally::with_words` meets its contract. Assumes nothing.
use Rattle.std.proofs.Common.{refl, sym, ◌∙◌, arith}
use Rattle.tally.proofs.TallyLaws.{words-turn, words-end}
use Rattle.tally.proofs.with_words.Goals as goal

pub loop-word-init : goal.loop-word-init
loop-word-init c = λ begins. (refl, begins)

pub loop-word-preserved : goal.loop-word-preserved
loop-word-preserved c = λ begins.
    let l = c.loop-word in
    let so_far = l.invariant begins in
    let word = c.with_word-tally.ensures so_far.1 in
    (words-turn _ l.tally _ _ l.word-index _ (omega arith) so_far.0 word.0, word.1)

pub returns : goal.returns
returns c = λ begins.
    let l = c.loop-word in
    let all = l.invariant begins in
    (sym (all.0 ∙ words-end l.tally c.args.words.now l.word-index (omega arith)), all.1)
