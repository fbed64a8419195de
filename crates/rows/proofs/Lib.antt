-- Laws of the text in a buffer and its room, of the lines and their lengths, and of rows of numbers.
pub mod RowInBuffer
pub mod Room
pub mod SetLine
pub mod Lengths
pub mod RowNumbers
