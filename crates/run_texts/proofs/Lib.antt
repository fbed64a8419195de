-- What a run that begins prints.
pub mod Printed
