-- What the rules have no word for: the sets that bar a configuration.
pub mod Barred
