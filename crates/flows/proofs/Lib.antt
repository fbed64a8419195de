-- Laws that the functions' proofs lean on.
pub mod Percents
pub mod Room
pub mod Shifting
