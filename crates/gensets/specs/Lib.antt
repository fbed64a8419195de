-- What the calls of this crate answer for any record, and calls of the fuel rate summed.
pub mod Lines
pub mod Leaves
pub mod Burned
