-- The reading of both files: what is asked for next, what holds between two actions, and how many steps are left.
pub mod Stages
pub mod Holds
