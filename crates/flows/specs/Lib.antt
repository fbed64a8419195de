-- What the rules have no word for: the decided amounts of a lent slice, and steps 3 to 7 together.
pub mod Amounts
pub mod Met
