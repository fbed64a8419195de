-- What a call owes.
pub mod Moves
