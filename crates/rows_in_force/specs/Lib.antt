-- The row in force at a second.
pub mod Held
