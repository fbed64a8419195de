-- Laws of chunks, and of a row that is sought among those that come.
pub mod ChunkedLaws
