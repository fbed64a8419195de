-- The seconds worked, their inputs as they are handed over, and what a call owes.
pub mod Worked
pub mod HandedOver
pub mod MoveLaws
