-- `modes::tick::tick_all` meets its contract. Assumes nothing.
use borrow.Author.Rules.{rules}
use Rattle.rules.specs.StationRecord.{past_end, set_at}
use Rattle.rules.specs.Modes.{state_at, ticked}
use Rattle.modes.proofs.MadeByPlace.{made}
use Rattle.modes.proofs.tick.tick_all.Goals as goal

pub returns : goal.returns
unfolding ticked set_at state_at past_end
returns c = made _ _ 8 _ (λ i y q l called. search rules) _ c.from_fn.ensures.items
