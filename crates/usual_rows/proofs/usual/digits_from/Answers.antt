-- `usual_rows::usual::digits_from` meets its contract. Assumes nothing.
use Rattle.std.proofs.Common.{◌≡◌, ℕ, ◌+◌, subst, arith}
use Rattle.usual_rows.proofs.UsualLaws.{taking-start, taking-digit, taken, taking-below}
use Rattle.usual_rows.specs.Usual.{DigitsTaken}
use Rattle.usual_rows.proofs.usual.digits_from.Goals as goal

pub loop-i-init : goal.loop-i-init
loop-i-init c = (c.requires.1, c.requires.2, taking-start c.args.text.now c.args.at c.args.most c.args.before c.requires.0)

pub bounds-text-i : goal.bounds-text-i
bounds-text-i c = omega (arith, c.loop-i-test.true, c.loop-i.invariant.2.within)

pub returns-then-digit-gt9 : goal.returns-then-digit-gt9
returns-then-digit-gt9 c = taken c.args.text.now c.args.at c.args.most c.args.before c.loop-i.i c.loop-i.number c.loop-i.invariant.2

pub overflow_mul-number : goal.overflow_mul-number
overflow_mul-number c = record { fits = omega (arith, taking-below c.args.text.now c.args.at c.args.most c.args.before c.loop-i.i c.loop-i.number c.loop-i.invariant.2 c.loop-i.invariant.0 c.loop-i.invariant.1 (omega (arith, c.loop-i-test.true)), c.if-digit-gt9.false) }

pub overflow_add-number : goal.overflow_add-number
overflow_add-number c = record { fits = omega (arith, taking-below c.args.text.now c.args.at c.args.most c.args.before c.loop-i.i c.loop-i.number c.loop-i.invariant.2 c.loop-i.invariant.0 c.loop-i.invariant.1 (omega (arith, c.loop-i-test.true)), c.if-digit-gt9.false) }

pub loop-i-preserved : goal.loop-i-preserved
loop-i-preserved c =
    let b = c.type_inv.text c.loop-i.i in
    (c.loop-i.invariant.0, c.loop-i.invariant.1, taking-digit _ _ _ _ _ _ _ c.loop-i.invariant.2 c.loop-i-test.true c.from-digit.ensures (omega (arith, b, c.from-digit.ensures)) c.if-digit-gt9.false)

pub returns : goal.returns
returns c =
    let e : c.loop-i.i ≡ c.args.at + c.args.most = omega arith in
    subst (λ (end : ℕ). DigitsTaken c.args.text.now c.args.at c.args.most c.args.before (record { end = end; number = c.loop-i.number })) e (taken c.args.text.now c.args.at c.args.most c.args.before c.loop-i.i c.loop-i.number c.loop-i.invariant.2)
