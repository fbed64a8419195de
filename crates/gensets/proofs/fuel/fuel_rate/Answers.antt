-- `fuel::fuel_rate` meets its contract: each answer is the one that its tests leave. Assumes nothing.
use borrow.Author.Rules.{rules}
use mathlib.Core.Path.{◌≡◌, sym, ◌∙◌}
use mathlib.Core.Bool.{true}
use Prim.Native.Nat.{◌*◌, ◌≤◌}
use native.Mathlib.Omega.{arith}
use Rattle.gensets.specs.Leaves.{line_right}
use Rattle.gensets.proofs.LineRight.{rated}
use Rattle.gensets.proofs.LineSmall.{line_at, right-rate}
use Rattle.gensets.proofs.FuelFacts.{too_few, too_many, line-wrong, power-over, rate-given}
use Rattle.gensets.proofs.fuel.fuel_rate.Goals as goal
use Rattle.gensets.proofs.fuel.fuel_rate.Goals.{Else-not-line_right}

-- past the third test the line is in rule
right : (c : Else-not-line_right) → line_right c.args.g c.lower_point-j.result ≡ true
right c = sym c.line_right.ensures ∙ c.if-not-line_right.false

pub returns-then-g-lt-POINTS_LEAST : goal.returns-then-g-lt-POINTS_LEAST
returns-then-g-lt-POINTS_LEAST c = too_few c.args.g c.args.power c.if-g-lt-POINTS_LEAST.true

pub returns-then-g-gt-POINTS_MOST : goal.returns-then-g-gt-POINTS_MOST
returns-then-g-gt-POINTS_MOST c = too_many c.args.g c.args.power c.if-g-gt-POINTS_MOST.true

pub returns-then-not-line_right : goal.returns-then-not-line_right
returns-then-not-line_right c =
    let s = c.before.before.before.before.before.before.before in
    let lower = c.lower_point-j in
    line-wrong s.args.g s.args.power (search rules) (search rules) lower.result lower.ensures.0
    (sym c.line_right.ensures ∙ c.if-not-line_right.true)

pub overflow_mul-g : goal.overflow_mul-g
overflow_mul-g c = omega (arith, rated c.args.g c.lower_point-j.result (right c.before))

pub returns-then-g-power : goal.returns-then-g-power
returns-then-g-power c =
    let s = c.before.before.before.before.before.before.before.before.before in
    let lower = c.lower_point-j in
    power-over s.args.g s.args.power (search rules) (search rules) lower.result lower.ensures.0 (right c.before.before) (omega arith)

pub returns : goal.returns
returns c =
    let over = c.before.before.before in
    let s = over.before.before.before.before.before.before.before.before.before in
    let lower = over.lower_point-j in
    let line = right over.before.before in
    let near : s.args.power * 1000 ≤ 20_000_000_000 = omega (arith, rated s.args.g lower.result line) in
    rw (c.rate_on.ensures, c.product.ensures, c.line_of.ensures, line_at s.args.g lower.result (omega arith))
    (right-rate s.args.g lower.result line s.args.power near
    ∙ rate-given s.args.g s.args.power (search rules) (search rules) lower.result lower.ensures.0 line (omega arith))
