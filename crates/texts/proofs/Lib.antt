-- Laws of a text that grows in a buffer, and of one that is put there where it has room.
pub mod Texts
pub mod PutAt
