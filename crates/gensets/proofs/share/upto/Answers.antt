-- `gensets::share::upto` meets its contract: the logic's quotient by 0 is 0. Assumes nothing.
use Prim.Native.Nat.{◌*◌}
use mathlib.Core.Path.{sym}
use native.Mathlib.Nat.{div-zero}
use borrow.Author.Rules.{rules}
use Rattle.laws.proofs.Products.{product-fits}
use Rattle.gensets.proofs.share.upto.Goals as goal

pub returns-then-cap-eq0 : goal.returns-then-cap-eq0
returns-then-cap-eq0 c = rw c.if-cap-eq0.true (sym (div-zero (c.args.diesel * c.args.sum)))

pub overflow_mul-result : goal.overflow_mul-result
overflow_mul-result c = record { fits = product-fits 32 (search rules) (search rules) }
