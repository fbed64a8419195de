-- `dispatch::second::second` meets its contract. Assumes nothing.
use mathlib.Core.Path.{◌≡◌}
use lib.ListN.{length}
use borrow.Author.Rules.{rules}
use Rattle.rules.proofs.Shapes.{Tables}
use Rattle.rows.proofs.RowInBuffer.{row_put}
use Rattle.steps.proofs.Ready.{rated}
use Rattle.steps.proofs.Ruled.{step_of, stepped-is}
use Rattle.dispatch.proofs.Owed.{refused-owes, accepted-owes, late-refused, none-refused, is-admitted, has_room}
use Rattle.dispatch.proofs.second.second.Goals as goal
use Rattle.dispatch.proofs.second.second.Goals.{Start}

-- the station's tables have their lengths, and a run sixty decided amounts
module _ (c : Start) where
  tables : Tables c.args.st
  tables = record { sets-length = search rules; configs-length = search rules }

  sixty : length c.args.run.decided ≡ 60
  sixty = search rules

pub returns-in-Err : goal.returns-in-Err
returns-in-Err c =
    let a = c.args in
    refused-owes a.st a.run a.inputs a.row.now _ (late-refused a.st a.run a.inputs a.row.now _ c.judge.ensures _ c.in-Err.is)

pub returns : goal.returns
returns c =
    let a = c.args in
    let start = (goal.at.returns c).Start in
    let admitted = is-admitted a.st a.run a.inputs a.row.now _ c.judge.ensures c.in_default.is in
    let caps = rated a.st (tables start) admitted.station-given _ c.capacities-caps.ensures in
    let put = row_put _ _ _ _ (has_room a.st a.run a.inputs a.row.now _ c.judge.ensures c.in_default.is) c.put_row.ensures in
    let same = stepped-is a.st (tables start) _ caps a.run (sixty start) a.inputs admitted c.step-stepped.result _ (rw c.moment_of.ensures at c.step-stepped.ensures) in
    rw c.whole.ensures
    (accepted-owes a.st a.run a.inputs a.row.now (step_of _ _) _ _ (none-refused a.st a.run a.inputs a.row.now _ c.judge.ensures c.in_default.is) same put.0 put.1)
