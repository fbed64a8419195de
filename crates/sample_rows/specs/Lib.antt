-- What a reader of rows comes to with any rest of the file.
pub mod Streamed
