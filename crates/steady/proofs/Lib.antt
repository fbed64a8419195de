-- Laws by subject, and what the functions' proofs share.
pub mod EventLaws
pub mod SteadyLaws
pub mod CurveFilled
pub mod CurveRead
pub mod Adding
pub mod SteadySteps
pub mod Walking
pub mod SteadyEnds
pub mod SameRows
