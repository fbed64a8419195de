-- Laws of the rules that the code and the claims above lean on.
pub mod Products
pub mod Share
pub mod AtRating
pub mod Fuel
pub mod Balance
pub mod StationAt
pub mod FuelMost
pub mod KeptSets
pub mod KeptRest
pub mod Kept
pub mod RowLength
pub mod Called
