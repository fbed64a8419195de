-- `put_eight` meets its contract: four digits after four. Assumes nothing.
use Prim.Native.Nat.{ℕ, ◌+◌, ◌/◌, ◌%◌}
use mathlib.Core.Path.{sym, ap, ◌∙◌}
use mathlib.Core.List.{List}
use native.Mathlib.Omega.{arith}
use Rattle.decimals.specs.Commaed.{last_digits}
use Rattle.texts.specs.Placed.{placed}
use Rattle.texts.proofs.Texts.{placed_on}
use Rattle.decimals.proofs.LastDigits.{length_last, eight-digits}
use Rattle.decimals.proofs.decimal.put_eight.Goals as goal

pub returns : goal.returns
returns c =
    let a = c.args in
    let n = a.number in
    let lent = a.tail.now in
    let first = last_digits 4 (n / 10000) in
    let second = last_digits 4 (n % 10000) in
    c.put_four-2.ensures
    ∙ ap (λ (l : List ℕ). placed l (a.at + 4) second) c.put_four.ensures
    ∙ placed_on lent first second a.at (a.at + 4) (omega (arith, length_last 4 (n / 10000), c.requires.1)) (omega (arith, length_last 4 (n / 10000)))
    ∙ ap (placed lent a.at) (sym (eight-digits n))
