-- `put_number` meets its contract: one digit and the comma are two bytes; else the tail comes back with the digits, and the comma goes after
-- them. Assumes nothing.
use mathlib.Core.Path.{ap}
use native.Mathlib.Omega.{arith}
use lib.ListN.{length, length-set}
use Rattle.rules.specs.Bytes.{comma, decimal}
use Rattle.rules.proofs.Decimals.{decimal-one}
use Rattle.decimals.specs.Commaed.{ended}
use Rattle.texts.proofs.Texts.{two_bytes, tail-ended}
use Rattle.decimals.proofs.Lines.{length-ended}
use Rattle.decimals.proofs.numbers.put_number.Goals as goal

pub bounds-buffer-at-then-number-lt10 : goal.bounds-buffer-at-then-number-lt10
bounds-buffer-at-then-number-lt10 c =
    let a = c.args in
    simp length-set (omega (arith, c.requires, ap length (decimal-one a.number c.if-number-lt10.true)))

pub returns-then-number-lt10 : goal.returns-then-number-lt10
unfolding ended
returns-then-number-lt10 c =
    let a = c.args in
    let one = decimal-one a.number c.if-number-lt10.true in
    rw one (omega arith, two_bytes a.buffer.now a.at _ _ (omega (arith, c.requires, ap length one)))

pub returns : goal.returns
unfolding ended
returns c =
    let a = c.args in
    let p = c.put_long_decimal in (
      omega (arith, p.ensures.0, length-ended a.number comma),
      tail-ended a.buffer.now a.at _ comma _ (decimal a.number) c.requires p.ensures,
    )
