-- The tally of a pass over a file.
pub mod Tally
