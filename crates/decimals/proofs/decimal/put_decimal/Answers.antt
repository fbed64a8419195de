-- `put_decimal` meets its contract: at most four digits; some and four; or some and eight. Assumes nothing.
use mathlib.Core.Path.{refl}
use native.Mathlib.Omega.{arith}
use Rattle.decimals.proofs.LastDigits.{length-front-last, joined}
use Rattle.decimals.proofs.decimal.put_decimal.Goals as goal

pub put_short-digits-requires : goal.put_short-digits-requires
put_short-digits-requires c =
    let both = length-front-last 4 c.args.number c.if-number-lt10000.false in
    (omega (arith, c.if-number-lt100000000.true), omega (arith, c.requires, both))

pub put_four-requires : goal.put_four-requires
put_four-requires c =
    let both = length-front-last 4 c.args.number c.if-number-lt10000.false in
    let front = c.put_short-digits in
    (omega arith, omega (arith, c.requires, both, front.ensures.0, front.auto.tail))

pub overflow_add-result : goal.overflow_add-result
overflow_add-result c =
    let both = length-front-last 4 c.args.number c.if-number-lt10000.false in
    omega (arith, c.requires, both, c.put_short-digits.ensures.0)

pub returns-then-number-lt100000000 : goal.returns-then-number-lt100000000
returns-then-number-lt100000000 c =
    let a = c.args in
    let front = c.put_short-digits in
    joined 4 a.number a.tail.now _ _ front.result _ c.if-number-lt10000.false refl front.ensures c.put_four.ensures

pub put_short-digits-requires-2 : goal.put_short-digits-requires-2
put_short-digits-requires-2 c =
    let both = length-front-last 8 c.args.number c.if-number-lt100000000.false in
    (omega arith, omega (arith, c.requires, both))

pub put_eight-requires : goal.put_eight-requires
put_eight-requires c =
    let both = length-front-last 8 c.args.number c.if-number-lt100000000.false in
    let front = c.put_short-digits-2 in
    (omega arith, omega (arith, c.requires, both, front.ensures.0, front.auto.tail))

pub overflow_add-result-2 : goal.overflow_add-result-2
overflow_add-result-2 c =
    let both = length-front-last 8 c.args.number c.if-number-lt100000000.false in
    omega (arith, c.requires, both, c.put_short-digits-2.ensures.0)

pub returns : goal.returns
returns c =
    let a = c.args in
    let front = c.put_short-digits-2 in
    joined 8 a.number a.tail.now _ _ front.result _ c.if-number-lt100000000.false refl front.ensures c.put_eight.ensures
