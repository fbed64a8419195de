-- `records::states::counts_possible` meets its contract: the limit of the energy fits for any rating. Assumes nothing.
use native.Mathlib.Omega.{arith}
use native.Mathlib.Nat.{lt_of_le_of_lt, mul-le-mul_left}
use Rattle.records.proofs.states.counts_possible.Goals as goal

pub overflow_mul-rated : goal.overflow_mul-rated
overflow_mul-rated c = record { fits = lt_of_le_of_lt (mul-le-mul_left c.args.genset.rating c.requires) (omega arith) }
