-- What the rules have no word for: the record that a refused start hands back.
pub mod NoRun
