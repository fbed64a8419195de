-- The program `check`: what it prints, what each stage asks for, and what holds between two actions.
pub mod Answer
pub mod Stages
pub mod Holds
