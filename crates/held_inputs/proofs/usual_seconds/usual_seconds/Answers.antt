-- `held_inputs::usual_seconds::usual_seconds` meets its contract. Assumes nothing.
use mathlib.Core.Path.{◌≡◌}
use native.Mathlib.Omega.{arith}
use Rattle.held_inputs.proofs.UsualSeconds.{none_told, goes-on-from}
use Rattle.held_inputs.proofs.usual_seconds.usual_seconds.Goals as goal

pub returns-in_default : goal.returns-in_default
returns-in_default c = none_told _ _ _ c.args.chunk.now c.args.loads.now c.args.solars.now c.args.sheddables.now

pub returns-in_default-ahead : goal.returns-in_default-ahead
returns-in_default-ahead c = none_told _ _ _ c.args.chunk.now c.args.loads.now c.args.solars.now c.args.sheddables.now

pub returns-then-reached-gt0 : goal.returns-then-reached-gt0
returns-then-reached-gt0 c = none_told _ _ _ c.args.chunk.now c.args.loads.now c.args.solars.now c.args.sheddables.now

pub shape_of-loads : goal.shape_of-loads
shape_of-loads c = c.fill_usual.ensures.same_loads

pub shape_of-solars : goal.shape_of-solars
shape_of-solars c = c.fill_usual.ensures.same_solars

pub shape_of-sheddables : goal.shape_of-sheddables
shape_of-sheddables c = c.fill_usual.ensures.same_sheddables

pub returns : goal.returns
returns c =
    let t = c.args.told in
    let none : t.reached.begun.len ≡ 0 = omega (arith, c.if-reached-gt0.false) in
    goes-on-from t c.in-LaterRows.columns c.in-LaterRows.last c.in-LaterRows.lines c.in-Next.row c.in-LaterRows.is c.in-Next.is none c.if-last-row.false c.fill_usual.ensures
