-- Laws of text that is put again, of rows of numbers as lines, of lines that end alike, and of a line in two parts.
pub mod Again
pub mod RowLines
pub mod Kept
pub mod LineAt
