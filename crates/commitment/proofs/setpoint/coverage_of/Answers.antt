-- `commitment::setpoint::coverage_of` meets its contract. Assumes nothing.
use Rattle.std.proofs.Common.{arith, rules}
use Rattle.rules.specs.Setpoint.{coverage_of}
use Rattle.commitment.proofs.Reserves.{product-most}
use Rattle.commitment.proofs.setpoint.coverage_of.Goals as goal

pub overflow_mul-result : goal.overflow_mul-result
overflow_mul-result c = record { fits = omega (arith, product-most c.args.solar c.args.control.coverage (search rules) (search rules)) }

pub overflow_add-result : goal.overflow_add-result
overflow_add-result c = record { fits = omega (arith, product-most c.args.solar c.args.control.coverage (search rules) (search rules)) }

pub returns : goal.returns
unfolding coverage_of
returns c = search rules
