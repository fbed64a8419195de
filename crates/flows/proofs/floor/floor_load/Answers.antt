-- `floor::floor_load` meets its contract. Assumes nothing.
use mathlib.Core.Path.{◌∙◌}
use native.Mathlib.Omega.{arith}
use borrow.Author.Rules.{rules}
use Rattle.rules.specs.Flows.{floor_load}
use Rattle.flows.proofs.Percents.{in_parts, hundreds-most, left-most}
use Rattle.flows.proofs.floor.floor_load.Goals as goal

pub overflow_mul-result : goal.overflow_mul-result
overflow_mul-result c = record { fits = omega (arith, hundreds-most c.capacity-cap.result c.args.st.control.minload c.capacity-cap.ensures.upper_bound (search rules)) }

pub overflow_mul-result-2 : goal.overflow_mul-result-2
overflow_mul-result-2 c = record { fits = omega (arith, left-most c.capacity-cap.result c.args.st.control.minload (search rules)) }

pub overflow_add-result : goal.overflow_add-result
overflow_add-result c =
    let cap = c.capacity-cap in
    let minload = c.args.st.control.minload in
    record { fits = omega (arith, hundreds-most cap.result minload cap.ensures.upper_bound (search rules), left-most cap.result minload (search rules)) }

pub returns : goal.returns
unfolding floor_load
returns c = in_parts c.capacity-cap.result c.args.st.control.minload ∙ rw c.capacity-cap.ensures.value
