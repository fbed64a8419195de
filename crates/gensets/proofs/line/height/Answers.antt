-- `line::height` meets its contract: every number on the way fits 64 bits, so what the machine reads back is each number itself.
-- Assumes nothing.
use mathlib.Core.Path.{◌≡◌}
use Prim.Native.Nat.{◌*◌, ◌≤◌}
use native.Mathlib.Nat.{mul-le-mul}
use native.Mathlib.Omega.{arith}
use lib.IntN.{ℤ, pos, nat_abs, ◌+ℤ◌, ◌-ℤ◌, ◌*ℤ◌}
use lib.Dec.{lit<}
use mir.Syntax.{w64}
use mir.Val.{SFits, to_z, of_z}
use mir.ValLaws.{to_z_pos, to_z-of_z}
use Rattle.laws.proofs.FuelMost.{abs-minus, abs-times, abs-plus}
use Rattle.gensets.specs.Lines.{height_of}
use Rattle.gensets.proofs.LineSmall.{start_small, first_small, second-small, base-small}
use Rattle.gensets.proofs.Signed.{sfits, cut_below, cut-above, above}
use Rattle.gensets.proofs.line.height.Goals as goal
use Rattle.gensets.proofs.line.height.Goals.{Start}

-- the differences, the product and the sum, of the arguments
abbrev up : Start → ℤ
up c = pos c.args.line.second -ℤ pos c.args.line.first

abbrev along : Start → ℤ
along c = pos c.args.at -ℤ pos c.args.line.start

abbrev sum : Start → ℤ
sum c = pos (c.args.line.first * c.args.line.width) +ℤ up c *ℤ along c

first-most : (c : Start) → c.args.line.first ≤ 10_000_000
first-most c = first_small c.args.line c.requires.0

second-most : (c : Start) → c.args.line.second ≤ 10_000_000
second-most c = second-small c.args.line c.requires.0

start-most : (c : Start) → c.args.line.start ≤ 20_000_000_000
start-most c = omega (arith, start_small c.args.line c.requires.0)

base-most : (c : Start) → c.args.line.first * c.args.line.width ≤ 150_000_000_000_000_000
base-most c = base-small c.args.line c.requires.0

up_small : (c : Start) → nat_abs (up c) ≤ 10_000_000
up_small c = abs-minus c.args.line.second c.args.line.first 10_000_000 (second-most c) (first-most c)

along-small : (c : Start) → nat_abs (along c) ≤ 20_000_000_000
along-small c = abs-minus c.args.at c.args.line.start 20_000_000_000 c.requires.1 (start-most c)

mul_small : (c : Start) → nat_abs (up c *ℤ along c) ≤ 200_000_000_000_000_000
mul_small c = rw abs-times (mul-le-mul (up_small c) (along-small c))

sum-small : (c : Start) → nat_abs (sum c) ≤ 350_000_000_000_000_000
sum-small c = omega (arith, abs-plus (pos (c.args.line.first * c.args.line.width)) (up c *ℤ along c), mul_small c, base-most c)

up_fits : (c : Start) → SFits w64 (up c)
up_fits c = sfits (up c) (up_small c) (lit< tt)

along-fits : (c : Start) → SFits w64 (along c)
along-fits c = sfits (along c) (along-small c) (lit< tt)

mul-fits : (c : Start) → SFits w64 (up c *ℤ along c)
mul-fits c = sfits (up c *ℤ along c) (mul_small c) (lit< tt)

sum_fits : (c : Start) → SFits w64 (sum c)
sum_fits c = sfits (sum c) (sum-small c) (lit< tt)

-- what the machine reads
second_is : (c : Start) → to_z w64 c.args.line.second ≡ pos c.args.line.second
second_is c = to_z_pos w64 c.args.line.second (omega (arith, second-most c))

first-is : (c : Start) → to_z w64 c.args.line.first ≡ pos c.args.line.first
first-is c = to_z_pos w64 c.args.line.first (omega (arith, first-most c))

at-is : (c : Start) → to_z w64 c.args.at ≡ pos c.args.at
at-is c = to_z_pos w64 c.args.at (omega (arith, c.requires.1))

start_is : (c : Start) → to_z w64 c.args.line.start ≡ pos c.args.line.start
start_is c = to_z_pos w64 c.args.line.start (omega (arith, start-most c))

base-is : (c : Start) → to_z w64 (c.args.line.first * c.args.line.width) ≡ pos (c.args.line.first * c.args.line.width)
base-is c = to_z_pos w64 (c.args.line.first * c.args.line.width) (omega (arith, base-most c))

up_is : (c : Start) → to_z w64 (of_z w64 (up c)) ≡ up c
up_is c = to_z-of_z w64 (up c) (up_fits c)

along-is : (c : Start) → to_z w64 (of_z w64 (along c)) ≡ along c
along-is c = to_z-of_z w64 (along c) (along-fits c)

mul_is : (c : Start) → to_z w64 (of_z w64 (up c *ℤ along c)) ≡ up c *ℤ along c
mul_is c = to_z-of_z w64 (up c *ℤ along c) (mul-fits c)

sum_is : (c : Start) → to_z w64 (of_z w64 (sum c)) ≡ sum c
sum_is c = to_z-of_z w64 (sum c) (sum_fits c)

pub overflow_mul-base : goal.overflow_mul-base
overflow_mul-base c = record { fits = omega (arith, base-most c.before) }

pub overflow_cast-rise : goal.overflow_cast-rise
overflow_cast-rise c = record { sfits = omega (arith, second-most c.before.before) }

pub overflow_cast-rise-2 : goal.overflow_cast-rise-2
overflow_cast-rise-2 c = record { sfits = omega (arith, first-most c.before.before.before) }

pub overflow_sub-rise : goal.overflow_sub-rise
overflow_sub-rise c = let s = c.before.before.before in rw (second_is s, first-is s) (up_fits s)

pub overflow_cast-run-2 : goal.overflow_cast-run-2
overflow_cast-run-2 c = record { sfits = omega (arith, start-most c.before.before.before.before) }

pub overflow_sub-run : goal.overflow_sub-run
overflow_sub-run c = let s = c.before.before.before.before in rw (at-is s, start_is s) (along-fits s)

pub overflow_cast-exact : goal.overflow_cast-exact
overflow_cast-exact c = record { sfits = omega (arith, base-most c.before.before.before.before) }

pub overflow_mul-exact : goal.overflow_mul-exact
overflow_mul-exact c =
    let s = c.before.before.before.before in
    rw (second_is s, first-is s, at-is s, start_is s, up_is s, along-is s) (mul-fits s)

pub overflow_add-exact : goal.overflow_add-exact
overflow_add-exact c =
    let s = c.before.before.before.before in
    rw (base-is s, second_is s, first-is s, at-is s, start_is s, up_is s, along-is s, mul_is s) (sum_fits s)

pub returns-then-exact-lt0 : goal.returns-then-exact-lt0
unfolding height_of
returns-then-exact-lt0 c =
    let s = c.before.before.before.before.before in
    cut_below (sum s) (rw (base-is s, second_is s, first-is s, at-is s, start_is s, up_is s, along-is s, mul_is s, sum_is s) at c.if-exact-lt0.true)

pub overflow_cast-result : goal.overflow_cast-result
overflow_cast-result c =
    let s = c.before.before.before.before.before in
    let k = rw (base-is s, second_is s, first-is s, at-is s, start_is s, up_is s, along-is s, mul_is s, sum_is s) at c.if-exact-lt0.false in
    rw (base-is s, second_is s, first-is s, at-is s, start_is s, up_is s, along-is s, mul_is s, sum_is s) (above (sum s) k, record { fits = omega (arith, sum-small s) })

pub returns : goal.returns
unfolding height_of
returns c =
    let s = c.before.before.before.before.before in
    let k = rw (base-is s, second_is s, first-is s, at-is s, start_is s, up_is s, along-is s, mul_is s, sum_is s) at c.if-exact-lt0.false in
    rw (base-is s, second_is s, first-is s, at-is s, start_is s, up_is s, along-is s, mul_is s, sum_is s) (cut-above (sum s) k)
