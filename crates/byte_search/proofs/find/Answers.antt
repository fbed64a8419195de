-- `find` meets its contract. Assumes nothing.
use Rattle.std.proofs.Common.{arith, ap, sym, ◌+◌, ℕ, length-take, length-drop}
use Rattle.byte_search.proofs.Found.{slice-empty, slice-found, slice-none}
use Rattle.byte_search.proofs.find.Goals as goal

pub returns-then-end-from-clause-first : goal.returns-then-end-from-clause-first
returns-then-end-from-clause-first c = omega (arith, slice-empty c.args.from c.args.to c.min-end.result c.args.s.now c.min-end.ensures c.args.byte c.if-end-from.true)

pub returns-in-Some-clause-first : goal.returns-in-Some-clause-first
returns-in-Some-clause-first c =
    let e = c.in-Some.ensures in
    let first = e.0 in
    ap (λ (k : ℕ). c.args.from + k) (sym (slice-found c.args.from c.args.to c.min-end.result c.args.s.now c.min-end.ensures c.args.byte c.in-Some.at c.if-end-from.false first.high first.before e.1))

pub returns-in-None-clause-first : goal.returns-in-None-clause-first
returns-in-None-clause-first c =
    let e = c.in-None.ensures in
    let all = slice-none c.args.from c.args.to c.min-end.result c.args.s.now c.min-end.ensures c.args.byte c.if-end-from.false e in
    omega (arith, all, length-take {A = ℕ}, length-drop {A = ℕ})
