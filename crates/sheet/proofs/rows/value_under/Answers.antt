-- `sheet::rows::value_under` meets its contract. Assumes nothing.
use Rattle.sheet.proofs.RowLaws.{under-second, under-third, under-fourth, under_none}
use Rattle.sheet.proofs.rows.value_under.Goals as goal

pub returns-then-name-columns : goal.returns-then-name-columns
returns-then-name-columns c = under-second _ _ _ _ _ c.if-name-columns.true

pub returns-then-name-columns-2 : goal.returns-then-name-columns-2
returns-then-name-columns-2 c = under-third _ _ _ _ _ c.if-name-columns.false c.if-name-columns-2.true

pub returns-then-name-columns-3 : goal.returns-then-name-columns-3
returns-then-name-columns-3 c = under-fourth _ _ _ _ _ c.if-name-columns.false c.if-name-columns-2.false c.if-name-columns-3.true

pub returns : goal.returns
returns c = under_none _ _ _ _ _ c.if-name-columns.false c.if-name-columns-2.false c.if-name-columns-3.false
