-- `commitment::configuration::chosen` meets its contract: the three answers in the definition's order, all with the one mask of barred
-- sets. Assumes nothing.
use Rattle.std.proofs.Common.{◌≡◌, length, rules}
use Rattle.commitment.proofs.Called.{kept, first-called, none-called}
use Rattle.commitment.proofs.configuration.chosen.Goals as goal

pub returns-then-called_covers-recent : goal.returns-then-called_covers-recent
returns-then-called_covers-recent c =
    let a = c.args in
    kept a.st a.caps.now a.barred a.held a.called a.since a.second c.called_covers.ensures c.saturating_sub.ensures c.if-called_covers-recent.true

pub returns-in-Some : goal.returns-in-Some
returns-in-Some c =
    let a = c.args in
    let size : length a.st.configs ≡ 64 = search rules in
    first-called a.st a.caps.now a.barred a.held a.called a.since a.second c.called_covers.ensures c.saturating_sub.ensures c.if-called_covers-recent.false c.min-configcount.ensures size c.in-Some.ensures.1 c.in-Some.ensures.0

pub returns-in-None : goal.returns-in-None
returns-in-None c =
    let a = c.args in
    let size : length a.st.configs ≡ 64 = search rules in
    rw c.greatest_usable.ensures (none-called a.st a.caps.now a.barred a.held a.called a.since a.second c.called_covers.ensures c.saturating_sub.ensures c.if-called_covers-recent.false c.min-configcount.ensures size c.in-None.ensures)
