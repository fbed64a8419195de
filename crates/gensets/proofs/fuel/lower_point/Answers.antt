-- `fuel::lower_point` meets its contract: the lower point of the places below j stays as j falls. Assumes nothing.
use mathlib.Core.Path.{◌≡◌, sym, ◌∙◌}
use Prim.Native.Nat.{◌-◌}
use native.Mathlib.Omega.{arith}
use Rattle.rules.specs.Fuel.{lower_of, lower_point}
use Rattle.gensets.proofs.LineRight.{point-taken, point-passed}
use Rattle.gensets.proofs.fuel.lower_point.Goals as goal

pub loop-j-init : goal.loop-j-init
unfolding lower_point
loop-j-init c = let e : c.args.g.points - 1 - 1 ≡ c.args.g.points - 2 = omega arith in record { some = omega arith; same = rw e }

pub returns-then-product-at : goal.returns-then-product-at
returns-then-product-at c =
    let here = point-taken c.args.g c.args.power (c.loop-j.j - 1) (omega arith) (omega (arith, c.product.ensures, c.product-at.ensures)) in
    (sym here ∙ c.loop-j.invariant.same, omega arith)

pub loop-j-preserved : goal.loop-j-preserved
loop-j-preserved c =
    let here = point-passed c.args.g c.args.power (c.loop-j.j - 1) (omega arith) (omega (arith, c.product.ensures, c.product-at.ensures)) in
    record { some = omega arith; same = sym here ∙ c.loop-j.invariant.same }

pub returns : goal.returns
unfolding lower_of
returns c =
    let none : c.loop-j.j - 1 ≡ 0 = omega arith in
    (rw none at c.loop-j.invariant.same, omega arith)
