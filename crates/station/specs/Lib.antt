-- What the station file's bytes come to as they arrive.
pub mod Stations
