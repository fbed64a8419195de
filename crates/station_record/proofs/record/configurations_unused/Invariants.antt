-- `station_record::record::configurations_unused` meets its contract: the loop asks each place once. Assumes nothing.
use mathlib.Core.Path.{◌≡◌}
use mathlib.Core.Bool.{◌&&◌}
use lib.ListN.{length, drop}
use Rattle.rules.specs.Numbers.{all_zero}
use Rattle.station_record.proofs.record.configurations_unused.Given as goal

abbrev pub invariant-loop-i : goal.invariant-loop-i
invariant-loop-i l = (length l.configs ≡ 64) × (all_zero (drop l.from l.configs) ≡ l.unused && all_zero (drop l.i l.configs))
