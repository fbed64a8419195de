-- Laws of numbers and rows.
pub mod DigitLaws
pub mod PowerLaws
pub mod RowLaws
pub mod RowCells
