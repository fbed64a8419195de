-- What is asked of the seconds of a call.
pub mod Admission
