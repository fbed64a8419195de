-- What each second is handed.
pub mod Filling
