-- The steps as the code takes them, and that of an admitted second they are the rules' own.
pub mod StepsTaken
pub mod Ready
pub mod Ruled
