-- What is written at each stage, and that a program may stop at any.
pub mod StopLaws
