pub mod Joining
pub mod Butterfly
pub mod Roots
pub mod Levels
pub mod BlockLaws
pub mod PlaceLaws
pub mod Parts
