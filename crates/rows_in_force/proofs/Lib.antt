-- Laws of the rows in force.
pub mod HeldLaws
