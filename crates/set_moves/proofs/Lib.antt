-- The walk over a mask's sets, and where counts and commands are the rules' own.
pub mod PassedBy
pub mod Fits
pub mod SetsRuled
