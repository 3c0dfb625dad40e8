pub mod Bounds
pub mod Passed
pub mod Permitted
pub mod DrawnStatement
