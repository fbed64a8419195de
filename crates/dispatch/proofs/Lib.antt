-- Laws by subject, and what the functions' proofs share.
pub mod Owed
pub mod WorkedSeconds
pub mod Working
pub mod AskNothing
