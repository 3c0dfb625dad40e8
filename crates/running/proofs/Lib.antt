pub mod Feeding
pub mod Closing
