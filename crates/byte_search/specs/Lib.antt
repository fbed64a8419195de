-- Where a byte stands in a text.
pub mod Bytes
