-- `usual_rows::usual::digits_from` meets its contract. Assumes nothing.
use Rattle.std.proofs.Common.{◌-◌, ◌^◌, ◌<◌, ◌≤◌}
use Rattle.usual_rows.proofs.UsualLaws.{Taking}
use Rattle.usual_rows.proofs.usual.digits_from.Given as goal

abbrev pub invariant-loop-i : goal.invariant-loop-i
invariant-loop-i l = (l.most ≤ 9) × (l.before < 10 ^ (9 - l.most)) × Taking l.text l.at l.most l.before l.i l.number
