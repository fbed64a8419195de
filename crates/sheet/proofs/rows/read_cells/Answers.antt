-- `sheet::rows::read_cells` meets its contract. Assumes nothing.
use mathlib.Core.Path.{◌∙◌}
use Rattle.std.proofs.lemmas.Result.{err_from_is_err_and}
use Rattle.sheet.proofs.RowLaws.{wrong_first, wrong_second, wrong-third, wrong-fourth, all-four}
use Rattle.sheet.proofs.rows.read_cells.Goals as goal

pub returns-in_err-at : goal.returns-in_err-at
returns-in_err-at c =
    let p = err_from_is_err_and c.from_residual.result c.from_residual.ensures.1 in
    rw (p.1, p.2) (wrong_first _ _ _ _ _ _ _ _ c.cell_value.ensures c.in_err-at.was)

pub returns-in_err-cell_value : goal.returns-in_err-cell_value
returns-in_err-cell_value c =
    let p = err_from_is_err_and c.from_residual-in_err-cell_value.result c.from_residual-in_err-cell_value.ensures.1 in
    rw (p.1, p.2) (wrong_second _ _ _ _ _ _ _ _ c.cell_value.ensures c.in_ok-at.was _ _ c.cell_value-2.ensures c.in_err-cell_value.was)

pub returns-in_err-cell_value-2 : goal.returns-in_err-cell_value-2
returns-in_err-cell_value-2 c =
    let p = err_from_is_err_and c.from_residual-in_err-cell_value-2.result c.from_residual-in_err-cell_value-2.ensures.1 in
    rw (p.1, p.2) (wrong-third _ _ _ _ _ _ _ _ c.cell_value.ensures c.in_ok-at.was _ _ c.cell_value-2.ensures c.in_ok-cell_value.was _ _ c.cell_value-3.ensures c.in_err-cell_value-2.was)

pub returns-in_err-cell_value-3 : goal.returns-in_err-cell_value-3
returns-in_err-cell_value-3 c =
    let p = err_from_is_err_and c.from_residual-in_err-cell_value-3.result c.from_residual-in_err-cell_value-3.ensures.1 in
    rw (p.1, p.2) (wrong-fourth _ _ _ _ _ _ _ _ c.cell_value.ensures c.in_ok-at.was _ _ c.cell_value-2.ensures c.in_ok-cell_value.was _ _ c.cell_value-3.ensures c.in_ok-cell_value-2.was _ _ c.cell_value-4.ensures c.in_err-cell_value-3.was)

pub returns : goal.returns
returns c = c.agreeing.ensures ∙ all-four _ _ _ _ _ _ _ _ c.cell_value.ensures c.in_ok-at.was _ _ c.cell_value-2.ensures c.in_ok-cell_value.was _ _ c.cell_value-3.ensures c.in_ok-cell_value-2.was _ _ c.cell_value-4.ensures c.in_ok-cell_value-3.was
