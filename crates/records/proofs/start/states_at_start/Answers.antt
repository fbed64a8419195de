-- `records::start::states_at_start` meets its contract. Assumes nothing.
use borrow.Author.Rules.{rules}
use Rattle.modes.proofs.MadeByPlace.{made}
use Rattle.records.proofs.start.states_at_start.Goals as goal

pub returns : goal.returns
returns c = made _ _ 8 _ (λ i y q l called. search rules) _ c.from_fn.ensures.items
