-- Laws of little-endian numbers, and of masks and the walk over them.
pub mod LittleLaws
pub mod MaskTests
pub mod Zeros
pub mod Walk
pub mod Weighed
