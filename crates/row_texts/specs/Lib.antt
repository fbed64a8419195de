-- Rows of numbers as lines.
pub mod RowLines
