-- The refusals in their order, three numbers for each second, and how many seconds are admitted.
pub mod InOrder
pub mod Each
pub mod Admitting
pub mod Counted
