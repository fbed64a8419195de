-- Laws of the tally, and the theorems over every list of chunks.
pub mod TallyLaws
pub mod TallyChunks
