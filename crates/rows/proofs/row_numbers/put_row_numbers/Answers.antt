-- `rows::row_numbers::put_row_numbers` meets its contract. Assumes nothing.
use mathlib.Core.Path.{◌∙◌}
use lib.ListN.{length}
use borrow.Author.Tests.{le-leb, lt-leb}
use Rattle.rows.specs.RowNumbers.{row_first}
use Rattle.rows.proofs.row_numbers.put_row_numbers.Goals as goal

pub returns-then-rows-lt-ROW_COLUMNS : goal.returns-then-rows-lt-ROW_COLUMNS
unfolding row_first
returns-then-rows-lt-ROW_COLUMNS c = rw (lt-leb 13 (length c.args.rows.now) c.if-rows-lt-ROW_COLUMNS.true)

pub returns : goal.returns
unfolding row_first
returns c =
    rw (le-leb 13 (length c.args.rows.now) c.if-rows-lt-ROW_COLUMNS.false) (c.put_columns.ensures ∙ rw c.numbers_of.ensures)
