-- `line::product` meets its contract: the product of two numbers below 2 ^ 32 is below 2 ^ 64. Assumes nothing.
use borrow.Author.Rules.{rules}
use Rattle.laws.proofs.Products.{product-fits}
use Rattle.gensets.proofs.line.product.Goals as goal

pub overflow_mul-result : goal.overflow_mul-result
overflow_mul-result c = record { fits = product-fits 32 (search rules) (search rules) }
