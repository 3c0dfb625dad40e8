pub mod Draw
pub mod Drawn
