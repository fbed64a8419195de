-- `usual_rows::usual::end_from` meets its contract. Assumes nothing.
use Rattle.usual_rows.proofs.LineEnd.{lf-taken, cr-lf-taken}
use Rattle.usual_rows.proofs.usual.end_from.Goals as goal

pub returns-then-text-at-eq10 : goal.returns-then-text-at-eq10
returns-then-text-at-eq10 c = lf-taken _ _ c.requires c.if-text-at-eq10.true

pub returns-then-text-at : goal.returns-then-text-at
returns-then-text-at c = cr-lf-taken _ _ c.requires c.if-text-at.true
