-- What the steps up to the second pass keep, and how few they are.
pub mod CallingLaws
pub mod SecondsLaws
