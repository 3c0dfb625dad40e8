pub mod Weights
pub mod Newton
pub mod Fits
