-- The room that a turn of seconds asks for is enough for a row, and no more than a row's where nothing is written. Assumes nothing.
use Rattle.std.specs.Prelude.{if◌then◌else◌}
use Prim.Native.Nat.{ℕ, ◌≤◌}
use mathlib.Core.Path.{◌≡◌, ap}
use mathlib.Core.Bool.{Bool, true, false}
use native.Mathlib.Omega.{arith}
use lib.Dec.{eqb}
use Rattle.run_phases.specs.Phases.{least_room}

either : (b : Bool) → 256 ≤ (if b then 256 else 8192)
either true = omega arith
either false = omega arith

pub row_room : (written : ℕ) → 256 ≤ least_room written
row_room written = either (eqb written 0)

pub first-room : (written : ℕ) → written ≡ 0 → least_room written ≡ 256
first-room written none = ap least_room none
