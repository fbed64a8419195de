-- The steps of a second for whatever is handed in.
pub mod Steps
