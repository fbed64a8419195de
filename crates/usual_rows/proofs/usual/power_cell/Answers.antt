-- `usual_rows::usual::power_cell` meets its contract. Assumes nothing.
use Rattle.std.proofs.Common.{arith}
use Rattle.usual_rows.proofs.UsualLaws.{whole_below, whole-end, whole_part, decimals-below, decimal-part}
use Rattle.usual_rows.proofs.usual.power_cell.Goals as goal

pub overflow_mul-result : goal.overflow_mul-result
overflow_mul-result c = record { fits = omega (arith, whole_below c.args.text.now c.args.at c.digits_from-whole.result c.digits_from-whole.ensures) }

pub returns-then-text-point-ne46 : goal.returns-then-text-point-ne46
returns-then-text-point-ne46 c = whole_part c.args.text.now c.args.at c.digits_from-whole.result c.digits_from-whole.ensures c.if-point-at.false

pub digits_from-all-requires : goal.digits_from-all-requires
digits_from-all-requires c = (omega (arith, whole-end c.args.text.now c.args.at c.digits_from-whole.result c.digits_from-whole.ensures, c.requires), omega arith, whole_below c.args.text.now c.args.at c.digits_from-whole.result c.digits_from-whole.ensures)

pub overflow_mul-result-2 : goal.overflow_mul-result-2
overflow_mul-result-2 c = record { fits = omega (arith, decimals-below c.args.text.now c.args.at c.digits_from-whole.result c.digits_from-whole.ensures c.digits_from-all.result c.digits_from-all.ensures c.last_worth.result c.last_worth.ensures.0) }

pub returns : goal.returns
returns c = decimal-part c.args.text.now c.args.at c.digits_from-whole.result c.digits_from-whole.ensures c.digits_from-all.result c.digits_from-all.ensures c.last_worth.result c.last_worth.ensures.0 (omega (arith, whole-end c.args.text.now c.args.at c.digits_from-whole.result c.digits_from-whole.ensures, c.requires)) c.if-text-point-ne46.false c.if-point-at.false c.if-all-start.false
