-- `test_chunks::fed_in_chunks` meets its contract. Assumes nothing.
use Prim.Native.Nat.{◌-◌}
use mathlib.Core.Path.{◌≡◌}
use lib.ListN.{length, drop}
use Rattle.sheet_stages.specs.ToCome.{placed}
use Rattle.samples.specs.Streamed.{sheet_span, checked_with}
use Rattle.test_chunks.proofs.fed_in_chunks.Given as goal

abbrev pub invariant-loop-at : goal.invariant-loop-at
invariant-loop-at l = checked_with l.fed (drop l.at l.file) ≡ placed (sheet_span l.file)

abbrev pub decreases-loop-at : goal.decreases-loop-at
decreases-loop-at l = length l.file - l.at
