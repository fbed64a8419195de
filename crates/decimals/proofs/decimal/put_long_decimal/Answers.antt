-- `put_long_decimal` meets its contract: the digits of a number of 32 bits, and eight, or twice eight, after them. Assumes nothing.
use Prim.Native.Nat.{◌+◌, ◌/◌}
use mathlib.Core.Path.{refl}
use native.Mathlib.Omega.{arith}
use Rattle.decimals.proofs.LastDigits.{length-front-last, joined}
use Rattle.decimals.proofs.decimal.put_long_decimal.Goals as goal

pub put_decimal-digits-requires : goal.put_decimal-digits-requires
put_decimal-digits-requires c =
    omega (arith, c.requires, length-front-last 8 c.args.number c.if-number-lt100000000.false)

pub put_eight-requires : goal.put_eight-requires
put_eight-requires c =
    let both = length-front-last 8 c.args.number c.if-number-lt100000000.false in
    let front = c.put_decimal-digits in
    (omega arith, omega (arith, c.requires, both, front.ensures.0, front.auto.tail))

pub overflow_add-result : goal.overflow_add-result
overflow_add-result c =
    let both = length-front-last 8 c.args.number c.if-number-lt100000000.false in
    omega (arith, c.requires, both, c.put_decimal-digits.ensures.0)

pub returns-then-high-lt100000000 : goal.returns-then-high-lt100000000
returns-then-high-lt100000000 c =
    let a = c.args in
    let front = c.put_decimal-digits in
    joined 8 a.number a.tail.now _ _ front.result _ c.if-number-lt100000000.false refl front.ensures c.put_eight.ensures

pub put_decimal-digits-requires-2 : goal.put_decimal-digits-requires-2
put_decimal-digits-requires-2 c =
    let n = c.args.number in
    let both = length-front-last 8 n c.if-number-lt100000000.false in
    let above = length-front-last 8 (n / 100000000) c.if-high-lt100000000.false in
    omega (arith, c.requires, both, above)

pub put_eight-requires-2 : goal.put_eight-requires-2
put_eight-requires-2 c =
    let n = c.args.number in
    let both = length-front-last 8 n c.if-number-lt100000000.false in
    let above = length-front-last 8 (n / 100000000) c.if-high-lt100000000.false in
    let front = c.put_decimal-digits-2 in
    (omega arith, omega (arith, c.requires, both, above, front.ensures.0, front.auto.tail))

pub overflow_add-digits : goal.overflow_add-digits
overflow_add-digits c =
    let n = c.args.number in
    let both = length-front-last 8 n c.if-number-lt100000000.false in
    let above = length-front-last 8 (n / 100000000) c.if-high-lt100000000.false in
    omega (arith, c.requires, both, above, c.put_decimal-digits-2.ensures.0)

pub put_eight-requires-3 : goal.put_eight-requires-3
put_eight-requires-3 c =
    let n = c.args.number in
    let both = length-front-last 8 n c.if-number-lt100000000.false in
    let above = length-front-last 8 (n / 100000000) c.if-high-lt100000000.false in
    let front = c.put_decimal-digits-2 in
    (omega arith, omega (arith, c.requires, both, above, front.ensures.0, front.auto.tail, c.put_eight-2.auto.tail))

pub overflow_add-result-2 : goal.overflow_add-result-2
overflow_add-result-2 c =
    let n = c.args.number in
    let both = length-front-last 8 n c.if-number-lt100000000.false in
    let above = length-front-last 8 (n / 100000000) c.if-high-lt100000000.false in
    omega (arith, c.requires, both, above, c.put_decimal-digits-2.ensures.0)

pub returns : goal.returns
returns c =
    let n = c.args.number in
    let lent = c.args.tail.now in
    let front = c.put_decimal-digits-2 in
    let d = front.result in
    let high = joined 8 (n / 100000000) lent _ _ d (d + 8) c.if-high-lt100000000.false refl front.ensures c.put_eight-2.ensures in
    joined 8 n lent _ _ (d + 8) _ c.if-number-lt100000000.false (omega arith) high c.put_eight-3.ensures
