-- What the step keeps, the theorem over lists of events, that such lists exist, and that the program completes.
pub mod StepLaws
pub mod Program
pub mod Existing
pub mod Completes
