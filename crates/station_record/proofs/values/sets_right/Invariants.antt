-- `station_record::values::sets_right` meets its contract. Assumes nothing.
use Prim.Native.Nat.{◌≤◌}
use mathlib.Core.Path.{◌≡◌}
use lib.ListN.{length, take, drop}
use Rattle.rules.specs.StationRecord.{sets_right}
use Rattle.station_record.proofs.values.sets_right.Given as goal

abbrev pub invariant-loop-i : goal.invariant-loop-i
invariant-loop-i l = (l.i-end ≤ length l.sets) × (sets_right 0 (take l.setcount l.sets) ≡ sets_right l.i (drop l.i (take l.i-end l.sets)))
