-- `arithmetic::percent` meets its contract. Assumes nothing.
use borrow.Author.Rules.{rules}
use Rattle.laws.proofs.Products.{product-fits}
use Rattle.flows.proofs.arithmetic.percent.Goals as goal

pub overflow_mul-result : goal.overflow_mul-result
overflow_mul-result c = record { fits = product-fits 32 (search rules) (search rules) }
