-- `sheet::numbers::digits_of` meets its contract. What is left of the text decides, with the value of its digits so far. Assumes nothing.
use mathlib.Core.Path.{sym, ◌∙◌}
use native.Mathlib.Numerals.{add-one}
use native.Mathlib.Omega.{arith}
use lib.ListN.{get_or}
use borrow.Author.Tests.{eqb-true, eqb-false}
use Rattle.rules.proofs.Tests.{within-fact}
use Rattle.sheet.proofs.DigitLaws.{read_short, read-long, read_first, read-other, read-digit, read-end, below_more, below-most}
use Rattle.sheet.proofs.numbers.digits_of.Goals as goal
use Rattle.sheet.proofs.numbers.digits_of.Goals.{then-is_empty-via-then-is_empty, then-is_empty-via-else-is_empty+then-most-part}

pub returns-then-is_empty : goal.returns-then-is_empty
returns-then-is_empty c =
    elim c.then-is_empty.branch [
      | then-is_empty-via-then-is_empty w ↦ let e = eqb-true _ 0 (sym c.is_empty.ensures ∙ w.if-is_empty.true) in read_short _ _ (omega (arith, e))
      | then-is_empty-via-else-is_empty+then-most-part w ↦ let e = eqb-false _ 0 (sym c.is_empty.ensures ∙ w.if-is_empty.false) in read-long _ _ (omega (arith, e)) w.if-most-part.true
    ]

pub loop-byte-init : goal.loop-byte-init
loop-byte-init c =
    let e = eqb-false _ 0 (sym c.is_empty.ensures ∙ c.if-is_empty.false) in
    (omega arith, omega arith, read_first _ _ (omega (arith, e)) c.if-most-part.false)

pub returns-then-not-is_ascii_digit : goal.returns-then-not-is_ascii_digit
returns-then-not-is_ascii_digit c = sym (c.loop-byte.invariant.2 ∙ read-other _ _ _ c.loop-byte-test.true (sym c.is_ascii_digit.ensures.value ∙ c.if-not-is_ascii_digit.true))

pub overflow_mul-number : goal.overflow_mul-number
overflow_mul-number c = omega (arith, below-most c.loop-byte.byte-index 8 c.loop-byte.number (omega arith) c.loop-byte.invariant.1)

pub overflow_add-number : goal.overflow_add-number
overflow_add-number c = omega (arith, below-most c.loop-byte.byte-index 8 c.loop-byte.number (omega arith) c.loop-byte.invariant.1)

pub loop-byte-preserved : goal.loop-byte-preserved
loop-byte-preserved c =
    let at = c.loop-byte in
    let digit = sym c.is_ascii_digit.ensures.value ∙ c.if-not-is_ascii_digit.false in
    let w = within-fact 48 57 (get_or c.args.part.now at.byte-index 0) digit in
    let e = c.from.ensures in (
      at.invariant.0,
      rw (add-one, e) (below_more at.byte-index at.number _ at.invariant.1 (omega (arith, w.1))),
      rw e (at.invariant.2 ∙ read-digit _ _ _ c.loop-byte-test.true digit),
    )

pub returns : goal.returns
returns c = sym (c.loop-byte.invariant.2 ∙ read-end _ _ _ c.loop-byte-test.false)
