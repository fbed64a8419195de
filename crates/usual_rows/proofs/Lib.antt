-- Laws of the parts of a usual row, and of the row.
pub mod Least
pub mod LineEnd
pub mod UsualLaws
pub mod PowersLaws
