-- `dispatch::second::judge` meets its contract. Assumes nothing.
use mathlib.Core.Path.{sym, ap, ◌∙◌}
use Rattle.rules.specs.Answers.{judged}
use Rattle.rules.proofs.Edges.{second-25, second-24}
use Rattle.laws.proofs.Kept.{judged-is}
use Rattle.dispatch.proofs.Owed.{judged-last}
use Rattle.dispatch.proofs.second.judge.Goals as goal

pub returns-then-not-some_file_gives : goal.returns-then-not-some_file_gives
returns-then-not-some_file_gives c =
    let a = c.args in
    sym (ap judged (second-25 a.st a.run a.inputs a.room (sym c.some_file_gives.ensures ∙ c.if-not-some_file_gives.true)))

pub returns-then-not-possible : goal.returns-then-not-possible
returns-then-not-possible c =
    let a = c.args in
    sym (ap judged (second-24 a.st a.run a.inputs a.room (sym c.some_file_gives.ensures ∙ c.if-not-some_file_gives.false) (sym c.possible.ensures ∙ c.if-not-possible.true)))

pub returns : goal.returns
returns c =
    let a = c.args in
    let asked = judged-is a.st a.run a.inputs a.room (sym c.some_file_gives.ensures ∙ c.if-not-some_file_gives.false) (sym c.possible.ensures ∙ c.if-not-possible.false) in
    c.admit.ensures ∙ judged-last _ _ ∙ ap judged (sym asked)
