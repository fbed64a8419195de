-- What a search for a byte found.
pub mod Found
