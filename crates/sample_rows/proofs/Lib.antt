-- Laws of the lines of a file that comes in pieces.
pub mod LineLaws
pub mod UsualNext
