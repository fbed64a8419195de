-- Laws of a part of a buffer.
pub mod Parts
