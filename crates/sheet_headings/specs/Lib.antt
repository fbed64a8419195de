-- What the parts of a line and a heading line come to in code.
pub mod Cells
pub mod Headings
