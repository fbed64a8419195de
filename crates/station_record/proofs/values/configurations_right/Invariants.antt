-- `station_record::values::configurations_right` meets its contract. Assumes nothing.
use Prim.Native.Nat.{◌≤◌}
use mathlib.Core.Path.{◌≡◌}
use lib.ListN.{length, take, drop}
use Rattle.rules.specs.StationRecord.{configurations_right}
use Rattle.station_record.proofs.values.configurations_right.Given as goal

abbrev pub invariant-loop-i : goal.invariant-loop-i
invariant-loop-i l = (l.i-end ≤ length l.configs) × (configurations_right l.setcount 0 (take l.configcount l.configs) ≡ configurations_right l.setcount l.i (drop l.i (take l.i-end l.configs)))
