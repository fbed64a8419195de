-- `commitment::configuration::greater` meets its contract. Assumes nothing.
use Rattle.std.proofs.Common.{le-ltb, lt-ltb}
use Rattle.commitment.specs.Choice.{greater}
use Rattle.commitment.proofs.configuration.greater.Goals as goal

pub returns-then-not-usable : goal.returns-then-not-usable
unfolding greater
returns-then-not-usable c = simp (← c.usable.ensures, c.if-not-usable.true)

pub returns-then-greatest-cap : goal.returns-then-greatest-cap
unfolding greater
returns-then-greatest-cap c =
    let first = c.before.before.before in
    simp (← first.usable.ensures, c.if-not-usable.false, lt-ltb _ _ c.if-greatest-cap.true)

pub returns : goal.returns
unfolding greater
returns c =
    let first = c.before.before.before in
    simp (← first.usable.ensures, c.if-not-usable.false, le-ltb _ _ c.if-greatest-cap.false)
