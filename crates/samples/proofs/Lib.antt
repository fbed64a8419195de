-- Laws of the check, and the theorems over every list of chunks.
pub mod CheckLaws
pub mod ChunkLaws
pub mod Chunks
pub mod UsualRows
