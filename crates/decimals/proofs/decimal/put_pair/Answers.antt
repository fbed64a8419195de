-- `put_pair` meets its contract: the two bytes stored are the two digits. Assumes nothing.
use Prim.Native.Nat.{◌+◌, ◌/◌, ◌%◌}
use mathlib.Core.Path.{◌≡◌}
use native.Mathlib.Omega.{arith}
use lib.ListN.{length-set}
use Rattle.decimals.specs.Commaed.{last_digits}
use Rattle.texts.proofs.Texts.{two_bytes}
use Rattle.decimals.proofs.decimal.put_pair.Goals as goal

pub bounds-tail-at-2 : goal.bounds-tail-at-2
bounds-tail-at-2 c = simp length-set (omega arith)

pub returns : goal.returns
unfolding last_digits
returns c =
    let a = c.args in
    let first : a.number / 10 % 10 ≡ a.number / 10 = omega arith in
    rw first (two_bytes a.tail.now a.at (48 + a.number / 10) (48 + a.number % 10) c.requires.1)
