pub mod Lanes
pub mod Compression
