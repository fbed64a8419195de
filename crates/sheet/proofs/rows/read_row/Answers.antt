-- `sheet::rows::read_row` meets its contract. Assumes nothing.
use mathlib.Core.Path.{◌∙◌}
use Rattle.sheet.proofs.RowCells.{line-long, one_cell, two_cells, three-cells, more-cells, four-cells}
use Rattle.sheet.proofs.rows.read_row.Goals as goal

pub returns-then-size-gt-MOST_LINE : goal.returns-then-size-gt-MOST_LINE
returns-then-size-gt-MOST_LINE c = line-long _ _ _ _ c.if-size-gt-MOST_LINE.true

pub returns-then-text-first_end : goal.returns-then-text-first_end
returns-then-text-first_end c = one_cell _ _ _ _ c.if-size-gt-MOST_LINE.false _ c.cell_at-first.ensures.result_value c.if-text-first_end.true

pub returns-then-text-second_end : goal.returns-then-text-second_end
returns-then-text-second_end c =
    two_cells _ _ _ _ c.if-size-gt-MOST_LINE.false _ c.cell_at-first.ensures.result_value c.if-text-first_end.false _ c.cell_at-second.ensures.result_value c.if-text-second_end.true

pub returns-then-text-third_end : goal.returns-then-text-third_end
returns-then-text-third_end c =
    three-cells _ _ _ _ c.if-size-gt-MOST_LINE.false _ c.cell_at-first.ensures.result_value c.if-text-first_end.false _ c.cell_at-second.ensures.result_value c.if-text-second_end.false _ c.cell_at-third.ensures.result_value c.if-text-third_end.true

pub returns-then-fourth_end-text : goal.returns-then-fourth_end-text
returns-then-fourth_end-text c =
    more-cells _ _ _ _ c.if-size-gt-MOST_LINE.false _ c.cell_at-first.ensures.result_value c.if-text-first_end.false _ c.cell_at-second.ensures.result_value c.if-text-second_end.false _ c.cell_at-third.ensures.result_value c.if-text-third_end.false _ c.cell_at-fourth.ensures.result_value c.if-fourth_end-text.true

pub returns : goal.returns
returns c =
    c.read_cells.ensures ∙ four-cells _ _ _ _ c.if-size-gt-MOST_LINE.false _ c.cell_at-first.ensures.result_value c.if-text-first_end.false _ c.cell_at-second.ensures.result_value c.if-text-second_end.false _ c.cell_at-third.ensures.result_value c.if-text-third_end.false _ c.cell_at-fourth.ensures.result_value c.if-fourth_end-text.false
