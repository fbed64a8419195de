-- What each step keeps, the theorem over lists of events, and that such lists exist.
pub mod StopLaws
pub mod AnswerLaws
pub mod PutLaws
pub mod StepLaws
pub mod Program
pub mod Existing
pub mod Completes
pub mod LineLaws
