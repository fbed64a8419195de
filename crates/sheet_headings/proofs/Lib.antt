-- Laws of the parts of a line, and of headings.
pub mod PartsAt
pub mod CellLaws
pub mod HeadingLaws
pub mod ColumnsRead
pub mod HeadingLineLaws
