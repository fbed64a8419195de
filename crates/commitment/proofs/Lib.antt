-- Laws of the setpoint and of the choice that the code leans on.
pub mod Reserves
pub mod Floats
pub mod Usable
pub mod Choices
pub mod Called
pub mod Ruled
