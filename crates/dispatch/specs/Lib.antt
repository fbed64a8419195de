-- Many seconds in one call.
pub mod Working
