-- What the steps keep, how few they are, and what they leave alone.
pub mod StopLaws
pub mod StationLaws
pub mod SampleLaws
pub mod StepLaws
pub mod FrameLaws
pub mod AskLaws
