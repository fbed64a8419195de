-- What the rows show, what is replayed from them, and what demand 3 claims of a whole run.
pub mod Shown
pub mod Replay
pub mod InRow
pub mod Burned
pub mod Claim
pub mod Batches
pub mod Printed
