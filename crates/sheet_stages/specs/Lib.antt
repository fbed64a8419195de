-- What is still to come of a sample file, once the lines so far came to a stage.
pub mod ToCome
pub mod Stages
