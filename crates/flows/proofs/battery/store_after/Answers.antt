-- `battery::store_after` meets its contract. Assumes nothing.
use borrow.Author.Rules.{rules}
use Rattle.rules.specs.Flows.{store_after}
use Rattle.laws.proofs.Products.{product-fits}
use Rattle.flows.proofs.battery.store_after.Goals as goal

pub overflow_mul-charge : goal.overflow_mul-charge
overflow_mul-charge c = record { fits = product-fits 32 (search rules) (search rules) }

pub overflow_mul-give : goal.overflow_mul-give
overflow_mul-give c = record { fits = product-fits 32 (search rules) (search rules) }

pub returns : goal.returns
unfolding store_after
returns c = c.saturating_sub.ensures
