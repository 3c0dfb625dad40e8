pub mod Bounds
pub mod Bytes
pub mod Differences
pub mod Filling
pub mod Loading
pub mod Tests
