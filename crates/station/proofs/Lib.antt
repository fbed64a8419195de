-- Laws that the code of this crate leans on, those that its callers do, and the theorems over every list of chunks.
pub mod Reading
pub mod ContentsOrder
pub mod FileAnswers
pub mod StationLaws
pub mod StationChunks
