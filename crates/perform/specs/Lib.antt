-- What can be proved of the code that performs actions.
pub mod Shape
pub mod Turns
