-- Laws of the tests of a run record, and of the start.
pub mod ZeroTests
pub mod AllPlaces
pub mod StartTold
