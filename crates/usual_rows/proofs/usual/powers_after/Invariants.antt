-- `usual_rows::usual::powers_after` meets its contract. Assumes nothing.
use Rattle.std.proofs.Common.{◌≡◌, length}
use Rattle.usual_rows.specs.Usual.{PowersTaken}
use Rattle.usual_rows.proofs.usual.powers_after.Given as goal

abbrev pub invariant-loop-watt : goal.invariant-loop-watt
invariant-loop-watt l = (length l.watt-items ≡ 3) × PowersTaken l.watt-index l.text l.comma l.end l.watt-items
