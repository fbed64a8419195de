-- `sheet::numbers::watts_of` meets its contract. Assumes nothing.
use Prim.Native.Nat.{ℕ, ◌+◌, ◌-◌, ◌*◌, ◌≤◌}
use mathlib.Core.Path.{◌≡◌, sym, ◌∙◌}
use native.Mathlib.Omega.{arith}
use native.Mathlib.Nat.{mul-le-mul}
use mathlib.Core.List.{List}
use lib.ListN.{length, take, drop, length-take}
use Rattle.rules.specs.Bytes.{point, digits, value}
use Rattle.byte_search.specs.Bytes.{index_of}
use Rattle.sheet.proofs.DigitLaws.{formed-none, Read, read_is}
use Rattle.sheet.proofs.PowerLaws.{point_at, power-none, power-whole, power-decimals}
use Rattle.sheet.proofs.numbers.watts_of.Goals as goal
use Rattle.sheet.proofs.numbers.watts_of.Goals.{After-find-point, In_ok-whole, In_ok-fraction}

point-is : (c : After-find-point) → c.find-point.result ≡ index_of point c.args.cell.now
point-is c = c.find-point.ensures.first ∙ point_at c.args.cell.now

-- what the two numbers are
whole-read : (c : In_ok-whole) → Read 6 (take c.find-point.result c.args.cell.now) c.in_ok-whole.whole
whole-read c = read_is 6 _ _ (sym c.in_ok-whole.was ∙ c.digits_of.ensures)

fraction-read : (c : In_ok-fraction) → Read 3 (take (length c.args.cell.now - (c.find-point.result + 1)) (drop (c.find-point.result + 1) c.args.cell.now)) c.in_ok-fraction.fraction
fraction-read c = read_is 3 _ _ (sym c.in_ok-fraction.was ∙ c.digits_of-2.ensures)

-- what the decimals add fits
decimals-small : (s : List ℕ) (fraction worth : ℕ) → Read 3 s fraction → worth ≤ 1000 → fraction * worth ≤ 999000
decimals-small s fraction worth read most = mul-le-mul {n₂ = 999} {m₂ = 1000} (omega (arith, read.below)) most

pub slice_bounds-digits_of-end : goal.slice_bounds-digits_of-end
slice_bounds-digits_of-end c = simp length-take (omega arith)

pub returns-in_err-whole : goal.returns-in_err-whole
returns-in_err-whole c =
    rw c.from_residual.ensures (sym (power-none c.args.cell.now _ (point-is (goal.at.returns-in_err-whole c).After-find-point) (formed-none (digits 6 (take c.find-point.result c.args.cell.now)) (value (take c.find-point.result c.args.cell.now)) (sym c.in_err-whole.was ∙ c.digits_of.ensures))))

pub overflow_mul-result : goal.overflow_mul-result
overflow_mul-result c = omega (arith, (whole-read (goal.at.overflow_mul-result c).In_ok-whole).below)

pub returns-then-point-cell : goal.returns-then-point-cell
returns-then-point-cell c =
    let w = whole-read (goal.at.returns-then-point-cell c).In_ok-whole in
    rw (power-whole c.args.cell.now c.find-point.result (point-is (goal.at.returns-then-point-cell c).After-find-point) c.if-point-cell.true, w.form, w.is)

pub returns-in_err-fraction : goal.returns-in_err-fraction
returns-in_err-fraction c =
    let w = whole-read (goal.at.returns-in_err-fraction c).In_ok-whole in
    let d = formed-none (digits 3 (take (length c.args.cell.now - (c.find-point.result + 1)) (drop (c.find-point.result + 1) c.args.cell.now))) (value (take (length c.args.cell.now - (c.find-point.result + 1)) (drop (c.find-point.result + 1) c.args.cell.now))) (sym c.in_err-fraction.was ∙ c.digits_of-2.ensures) in
    rw (power-decimals c.args.cell.now c.find-point.result (point-is (goal.at.returns-in_err-fraction c).After-find-point) (omega (arith, c.if-point-cell.false)), w.form, d) c.from_residual-in_err-fraction.ensures

pub overflow_mul-result-2 : goal.overflow_mul-result-2
overflow_mul-result-2 c = omega (arith, (whole-read (goal.at.overflow_mul-result-2 c).In_ok-whole).below)

pub overflow_mul-result-3 : goal.overflow_mul-result-3
overflow_mul-result-3 c = omega (arith, decimals-small _ _ _ (fraction-read (goal.at.overflow_mul-result-3 c).In_ok-fraction) c.last_worth.ensures.1)

pub overflow_add-result : goal.overflow_add-result
overflow_add-result c = omega (arith, decimals-small _ _ _ (fraction-read (goal.at.overflow_add-result c).In_ok-fraction) c.last_worth.ensures.1, (whole-read (goal.at.overflow_add-result c).In_ok-whole).below)

pub returns : goal.returns
returns c =
    let w = whole-read (goal.at.returns c).In_ok-whole in
    let d = fraction-read (goal.at.returns c).In_ok-fraction in
    rw (power-decimals c.args.cell.now c.find-point.result (point-is (goal.at.returns c).After-find-point) (omega (arith, c.if-point-cell.false)), w.form, d.form, w.is, d.is, c.last_worth.ensures.0)
