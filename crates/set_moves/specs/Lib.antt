-- Counts and commands of the sets as their types hold them, and how large those of a possible record get.
pub mod Sized
pub mod InType
