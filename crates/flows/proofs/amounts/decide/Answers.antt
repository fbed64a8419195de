-- `amounts::decide` meets its contract. Assumes nothing.
use mathlib.Core.Path.{◌∙◌}
use borrow.Author.Tests.{eq-eqb, ne_eqb}
use lib.ListN.{length}
use Rattle.flows.specs.Amounts.{decided_in}
use Rattle.flows.proofs.Shifting.{most-move}
use Rattle.flows.proofs.amounts.decide.Goals as goal

pub returns-then-amounts-eq60 : goal.returns-then-amounts-eq60
unfolding decided_in
returns-then-amounts-eq60 c =
    let moved = c.before.before in
    let told = moved.before.before in
    let test = told.before in
    let a = test.args in
    rw (eq-eqb (length a.amounts.now) 60 test.if-amounts-eq60.true) (moved.move_amounts.ensures ∙ most-move a.delay told.moving.result a.amounts.now a.new test.if-amounts-eq60.true told.moving.ensures)

pub returns-else-amounts-eq60 : goal.returns-else-amounts-eq60
unfolding decided_in
returns-else-amounts-eq60 c = let a = c.args in rw (ne_eqb (length a.amounts.now) 60 c.if-amounts-eq60.false)
