-- What a clerk is told of a refusal's place.
pub mod Places
