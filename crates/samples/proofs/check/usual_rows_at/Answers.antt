-- `samples::check::usual_rows_at` meets its contract. Assumes nothing.
use mathlib.Core.Path.{◌≡◌}
use native.Mathlib.Omega.{arith}
use Rattle.samples.proofs.check.usual_rows_at.Goals as goal

pub returns : goal.returns
returns c =
    let none : c.args.len ≡ 0 = omega (arith, c.if-len-gt0.false) in
    λ line. rw (c.in-LaterRows.is, none) c.usual_rows.ensures
