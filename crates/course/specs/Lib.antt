-- The seconds that the rules do not refuse, the inputs that are still to come, what a call ends for, and what a run begins with.
pub mod Ruled
pub mod Coming
pub mod Halts
pub mod Begin
