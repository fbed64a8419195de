-- The program `run`: what its step owes.
pub mod Steps
