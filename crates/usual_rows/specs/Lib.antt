-- What reading the usual row in one pass owes.
pub mod Usual
