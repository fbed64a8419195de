-- Laws that the code of this crate leans on.
pub mod Every
pub mod Ranges
pub mod Orders
