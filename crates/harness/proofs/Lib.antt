pub mod Answers
pub mod Elements
pub mod Permitted
pub mod Openings
