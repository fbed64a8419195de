-- Laws of the seconds asked.
pub mod AskedLaws
pub mod SecondsAsked
