-- What the laws are about, where the rules have no word for it.
pub mod Admitted
