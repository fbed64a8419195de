-- `steady::curve_table::lines_of` meets its contract. Assumes nothing.
use Rattle.rules.specs.Numbers.{tab}
use Rattle.steady.specs.CurveTable.{lines_of}
use Rattle.steady.proofs.curve_table.lines_of.Goals as goal

pub returns : goal.returns
unfolding lines_of tab
returns c = rw (c.line_or_none.ensures, c.line_or_none-2.ensures, c.line_or_none-3.ensures, c.line_or_none-4.ensures)
