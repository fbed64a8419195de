-- `sheet::numbers::last_worth` meets its contract. Assumes nothing.
use Prim.Native.Nat.{◌-◌}
use mathlib.Core.Path.{◌≡◌}
use native.Mathlib.Omega.{arith}
use Rattle.sheet.proofs.numbers.last_worth.Goals as goal

pub returns-in-0 : goal.returns-in-0
returns-in-0 c = (rw c.in-0.is, omega arith)

pub returns-in-1 : goal.returns-in-1
returns-in-1 c = (rw c.in-1.is, omega arith)

pub returns-in-2 : goal.returns-in-2
returns-in-2 c = (rw c.in-2.is, omega arith)

pub returns-in_default : goal.returns-in_default
returns-in_default c =
    let e : 3 - c.args.decimals ≡ 0 = omega arith in
    (rw e, omega arith)
