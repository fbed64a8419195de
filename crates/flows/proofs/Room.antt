-- What the battery takes at an efficiency of 0, which no file gives. Assumes nothing.
use Prim.Native.Nat.{ℕ, ◌-◌, ◌/◌}
use mathlib.Core.Path.{◌≡◌}
use native.Mathlib.Omega.{arith}
use native.Mathlib.Nat.{div-zero}
use Rattle.rules.specs.declared.station.Battery.{Battery}
use Rattle.rules.specs.Flows.{battery_takes}

-- a quotient by 0 is 0
pub takes-nothing : (b : Battery) (store surplus : ℕ) → b.efficiency ≡ 0 → 0 ≡ battery_takes b store surplus
unfolding battery_takes
takes-nothing b store surplus e =
    let q : (b.most - store) / b.efficiency ≡ 0 = rw e (div-zero (b.most - store)) in
    omega arith
