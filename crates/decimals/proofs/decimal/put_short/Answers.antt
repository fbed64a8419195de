-- `put_short` meets its contract: one digit; two; one and two; or four. Assumes nothing.
use mathlib.Core.Path.{refl}
use native.Mathlib.Omega.{arith}
use Rattle.decimals.proofs.LastDigits.{length-front-last, two_digits, four-digits, joined, alone, alone-length}
use Rattle.decimals.proofs.decimal.put_short.Goals as goal

pub put_pair-requires : goal.put_pair-requires
put_pair-requires c =
    let n = c.args.number in
    (c.if-number-lt100.true, omega (arith, c.requires.1, alone-length 2 n (two_digits n c.if-number-lt10.false c.if-number-lt100.true)))

pub returns-then-number-lt100 : goal.returns-then-number-lt100
returns-then-number-lt100 c =
    let a = c.args in
    alone 2 a.number a.tail.now _ (two_digits a.number c.if-number-lt10.false c.if-number-lt100.true) c.put_pair.ensures

pub put_digit-digits-requires : goal.put_digit-digits-requires
put_digit-digits-requires c =
    let both = length-front-last 2 c.args.number c.if-number-lt100.false in
    (omega (arith, c.if-number-lt1000.true), omega (arith, c.requires.1, both))

pub put_pair-requires-then-number-lt1000 : goal.put_pair-requires-then-number-lt1000
put_pair-requires-then-number-lt1000 c =
    let both = length-front-last 2 c.args.number c.if-number-lt100.false in
    let front = c.put_digit-digits in
    (omega arith, omega (arith, c.requires.1, both, front.ensures.0, front.auto.tail))

pub overflow_add-result : goal.overflow_add-result
overflow_add-result c =
    let both = length-front-last 2 c.args.number c.if-number-lt100.false in
    omega (arith, c.requires.1, both, c.put_digit-digits.ensures.0)

pub returns-then-number-lt1000 : goal.returns-then-number-lt1000
returns-then-number-lt1000 c =
    let a = c.args in
    let front = c.put_digit-digits in
    joined 2 a.number a.tail.now _ _ front.result _ c.if-number-lt100.false refl front.ensures c.put_pair-then-number-lt1000.ensures

pub put_four-requires : goal.put_four-requires
put_four-requires c =
    let n = c.args.number in
    (c.requires.0, omega (arith, c.requires.1, alone-length 4 n (four-digits n c.if-number-lt1000.false c.requires.0)))

pub returns : goal.returns
returns c =
    let a = c.args in
    alone 4 a.number a.tail.now _ (four-digits a.number c.if-number-lt1000.false c.requires.0) c.put_four.ensures
