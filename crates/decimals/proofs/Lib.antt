-- Laws of decimal numbers in a buffer, of lines of numbers, and of their lengths.
pub mod Decimals
pub mod LastDigits
pub mod FourDigits
pub mod Lines
pub mod Lengths
