pub mod Answers
pub mod Seeking
