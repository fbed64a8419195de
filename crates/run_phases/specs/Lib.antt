-- The phases of a run one after the other, and what a run begins with.
pub mod Phases
pub mod Begin
