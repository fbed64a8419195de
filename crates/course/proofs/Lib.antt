-- The inputs of seconds, and what a beginning owes.
pub mod InputsRight
pub mod BeginLaws
pub mod Started
