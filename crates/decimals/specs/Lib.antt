-- Numbers as text.
pub mod Commaed
