-- What a run still prints, and what a turn and a call of it owe.
pub mod Turns
pub mod Calls
pub mod Program
