-- Laws of a source that is refused, and of the end of the file.
pub mod EndLaws
