-- What the C sizing screen is handed.
pub mod Screen
