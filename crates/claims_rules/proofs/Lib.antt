-- The theorems of a whole run, over the rules.
pub mod Seconds
pub mod Lists
pub mod OverRows
pub mod Calls
pub mod Claim
pub mod Batches
pub mod Printed
pub mod PrintedCalls
pub mod StationA
