-- What a run has yet to hand over, and which inputs are still to come.
pub mod Rows
pub mod Text
pub mod Coming
