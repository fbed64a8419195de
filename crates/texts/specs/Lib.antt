-- What is owed of a text in a lent buffer.
pub mod Placed
