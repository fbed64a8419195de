-- What the check of a sample file comes to, and the file in chunks.
pub mod Streamed
pub mod Chunks
