-- `put_four` meets its contract: the four bytes of the word are the four digits. Assumes nothing.
use mathlib.Core.Path.{ap, ◌∙◌}
use native.Mathlib.Omega.{arith}
use lib.ListN.{length-set}
use Rattle.texts.specs.Placed.{placed}
use Rattle.texts.proofs.Texts.{four_bytes}
use Rattle.decimals.proofs.FourDigits.{byte_fits, word-digits}
use Rattle.decimals.proofs.decimal.put_four.Goals as goal

pub overflow_cast-tail : goal.overflow_cast-tail
overflow_cast-tail c = byte_fits _

pub overflow_cast-tail-2 : goal.overflow_cast-tail-2
overflow_cast-tail-2 c = byte_fits _

pub bounds-tail-at-2 : goal.bounds-tail-at-2
bounds-tail-at-2 c = simp length-set (omega arith)

pub overflow_cast-tail-3 : goal.overflow_cast-tail-3
overflow_cast-tail-3 c = byte_fits _

pub bounds-tail-at-3 : goal.bounds-tail-at-3
bounds-tail-at-3 c = simp length-set (omega arith)

pub bounds-tail-at-4 : goal.bounds-tail-at-4
bounds-tail-at-4 c = simp length-set (omega arith)

pub returns : goal.returns
returns c =
    let a = c.args in
    four_bytes a.tail.now a.at _ _ _ _ c.requires.1 ∙ ap (placed a.tail.now a.at) (word-digits a.number c.requires.0)
