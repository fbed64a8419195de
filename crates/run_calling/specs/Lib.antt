-- What the parts of these steps owe.
pub mod Calls
