-- Laws of capacity, shares and fuel rate: those that the code leans on, and those that its callers do.
pub mod SharesWalk
pub mod SharesCases
pub mod SharesTold
pub mod FileCapacity
pub mod Signed
pub mod LineRight
pub mod LineSmall
pub mod FuelFacts
pub mod FuelTold
