-- `words::masks::next_set` meets its contract. Assumes nothing.
use borrow.Author.Rules.{rules}
use native.Mathlib.Omega.{arith}
use Rattle.words.proofs.Zeros.{zeros-fit}
use Rattle.words.proofs.Walk.{next_past, next-none, next-some}
use Rattle.words.proofs.masks.next_set.Goals as goal

pub returns-then-from-ge8 : goal.returns-then-from-ge8
returns-then-from-ge8 c = next_past c.args.mask c.args.from (search rules)

pub returns-then-rest-eq0 : goal.returns-then-rest-eq0
returns-then-rest-eq0 c = let s = c.args in next-none s.mask s.from (omega arith) c.if-rest-eq0.true

pub overflow_add-result : goal.overflow_add-result
overflow_add-result c = record { fits = zeros-fit _ _ (omega arith) }

pub returns : goal.returns
returns c = let s = c.args in next-some s.mask s.from (omega arith) c.if-rest-eq0.false
