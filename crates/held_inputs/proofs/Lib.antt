-- Laws of the seconds told, and of what they are handed.
pub mod FillLaws
pub mod UsualSeconds
pub mod RowsRight
