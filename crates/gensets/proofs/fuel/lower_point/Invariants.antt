-- `fuel::lower_point` meets its contract: the lower point of the places below j stays as j falls. Assumes nothing.
use mathlib.Core.Path.{◌≡◌}
use Prim.Native.Nat.{◌-◌, ◌≤◌}
use Rattle.rules.specs.Fuel.{lower_of, lower_point}
use Rattle.gensets.proofs.fuel.lower_point.Given as goal

abbrev pub invariant-loop-j : goal.invariant-loop-j
invariant-loop-j l = record {
  some : 1 ≤ l.j;
  same : lower_of l.g l.power (l.j - 1) ≡ lower_point l.g l.power;
}
