-- Laws of the lines up to the first refused one, of stages and of places.
pub mod UpToRefused
pub mod PlaceLaws
pub mod StageLaws
pub mod PlaceBound
