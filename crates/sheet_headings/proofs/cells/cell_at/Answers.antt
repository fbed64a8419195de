-- `sheet_headings::cells::cell_at` meets its contract. Assumes nothing.
use Prim.Native.Nat.{◌-◌}
use mathlib.Core.Path.{sym, ap, ◌∙◌}
use lib.ListN.{length, take, drop}
use borrow.Author.Rules.{rules}
use Rattle.sheet_headings.proofs.CellLaws.{cell-to, cell-past, cell-whole}
use Rattle.sheet_headings.proofs.cells.cell_at.Goals as goal

pub returns-then-at-line : goal.returns-then-at-line
returns-then-at-line c =
    let a = c.args in
    let e = ap (λ n. take (n - a.at) (drop a.at a.line.now)) c.find-end.ensures.first ∙ cell-to a.line.now a.at in
    record { result_value = e; result_value_2 = e ∙ cell-whole a.line.now a.at ∙ sym (ap (λ l. take (length l) (drop a.at a.line.now)) e) }

pub returns-else-at-line : goal.returns-else-at-line
returns-else-at-line c = record { result_value = cell-past _ _ c.if-at-line.false; result_value_2 = search rules }
