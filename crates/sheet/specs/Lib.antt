-- What a cell and a row come to in code.
pub mod Digits
pub mod Cells
pub mod Rows
