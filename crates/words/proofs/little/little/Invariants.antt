-- `words::little::little` meets its contract: the bytes from place `at` on are read. Assumes nothing.
use Prim.Native.Nat.{◌-◌, ◌^◌, ◌<◌, min}
use mathlib.Core.Path.{◌≡◌}
use lib.ListN.{length, drop}
use Rattle.rules.specs.Bytes.{little}
use Rattle.words.proofs.little.little.Given as goal

abbrev pub invariant-loop-at : goal.invariant-loop-at
invariant-loop-at l = record {
  read : l.number ≡ little (8 - l.at) (drop l.at l.part);
  small : l.number < 256 ^ (min 8 (length l.part) - l.at);
}
