-- What the code that performs actions owes, the same for every program, and the lists of events that it can report.
pub mod World
pub mod Events
pub mod Existing
pub mod Machines
