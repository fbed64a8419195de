-- What holds of every program that is such a machine.
pub mod EventLaws
pub mod BufferLaws
pub mod ExistLaws
pub mod EventHeld
pub mod Expected
pub mod Words
pub mod WellLaws
