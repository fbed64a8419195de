-- `usual_rows::usual::usual_row` meets its contract. Assumes nothing.
use Rattle.std.specs.Prelude.{Some}
use Rattle.std.proofs.Common.{refl}
use Rattle.usual_rows.specs.Usual.{TimeTaken, PowersOf, EndTaken}
use Rattle.sheet.proofs.RowLaws.{row-whole, under-headings}
use Rattle.usual_rows.proofs.PowersLaws.{powers-line}
use Rattle.usual_rows.proofs.usual.usual_row.Goals as goal

pub returns : goal.returns
returns c =
    let s = c.args.text.now in
    let columns = c.args.columns in
    let time = c.in-Some.time in
    let cells = c.in_ok-cells.cells in
    let time-read : TimeTaken s c.args.at time.end time.number = rw c.in-Some.is at c.time_from.ensures in
    let powers-read : PowersOf s time.end (Some cells) = rw c.in_ok-cells.was at c.powers_after.ensures in
    let end_read : EndTaken s cells.end c.in_ok-next.next = rw c.in_ok-next.was at c.end_from.ensures in
    powers-line columns s c.args.at time.end time.number cells c.in_ok-next.next (c.powers_named.ensures c.if-not-powers_named.false) (c.has_room.ensures c.if-not-has_room.false) time-read powers-read end_read (Some _)
    (refl, λ line. row-whole columns line _ _ (under-headings columns time.number _ _ _ _ _ _ c.value_under.ensures c.value_under-2.ensures c.value_under-3.ensures) c.if-sample.false)
