-- Document 01, "The sample file": what a cell comes to in code.
use Rattle.std.specs.Prelude.{ℕ, Ok, Err, Result}
use Rattle.rules.specs.Answers.{Answer, accepted, refused}
use Rattle.sheet.specs.declared.numbers.CellFault.{CellFault}

-- 18: "cell malformed"; 19: "value over its limit"; each with "the line"
abbrev pub cell_of : ℕ → Result ℕ CellFault → Answer ℕ
cell_of line (Ok v) = accepted v
cell_of line (Err CellFault.Malformed) = refused 18 line
cell_of line (Err CellFault.OverLimit) = refused 19 line
