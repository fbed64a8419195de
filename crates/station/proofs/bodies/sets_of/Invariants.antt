-- `station::bodies::sets_of` meets its contract. Assumes nothing.
use Prim.Native.Nat.{◌+◌, ◌-◌, ◌*◌, ◌≤◌}
use mathlib.Core.Path.{◌≡◌}
use mathlib.Core.List.{◌++◌}
use lib.ListN.{length, drop, replicate}
use Rattle.rules.specs.StationRecord.{no_set}
use Rattle.rules.specs.StationFile.{sets_of}
use Rattle.station.proofs.bodies.sets_of.Given as goal

abbrev pub invariant-loop-i : goal.invariant-loop-i
invariant-loop-i l = (l.setcount ≤ 8) × (100 + 64 * l.setcount ≤ length l.s) × (l.sets ≡ sets_of l.i (drop 100 l.s) ++ replicate (8 - l.i) no_set)
