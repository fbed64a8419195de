-- What the steps of the second pass keep, and how few they are.
pub mod TallyCount
pub mod HandingLaws
pub mod SecondPassLaws
