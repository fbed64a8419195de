-- What the rules have no word for: the walk over a mask, and its steps.
pub mod Masks
pub mod Places
