-- `put_digit` meets its contract: the one digit is stored. Assumes nothing.
use native.Mathlib.Omega.{arith}
use Rattle.decimals.proofs.Decimals.{put_one}
use Rattle.decimals.proofs.decimal.put_digit.Goals as goal

pub bounds-tail-0 : goal.bounds-tail-0
bounds-tail-0 c = omega (arith, (put_one c.args.number c.args.tail.now c.requires.0 c.requires.1).0, c.requires.1)

pub returns : goal.returns
returns c = put_one c.args.number c.args.tail.now c.requires.0 c.requires.1
