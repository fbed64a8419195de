-- `station::numbers::number_at` meets its contract. Assumes nothing.
use borrow.Author.Rules.{rules}
use Rattle.station.proofs.Reading.{part-number}
use Rattle.station.proofs.numbers.number_at.Goals as goal

pub returns : goal.returns
returns c = let a = c.args in let given = part-number a.s.now a.at a.width c.little.result (search rules) (search rules) c.little.ensures.value c.little.ensures.upper_bound in record { value = given.0; upper_bound = given.1 }
