-- The program `run` by its stages: what it asks for, what it is given, what holds at each, how many steps are left, and what a step owes.
pub mod Stages
pub mod Given
pub mod Holds
pub mod StageSteps
