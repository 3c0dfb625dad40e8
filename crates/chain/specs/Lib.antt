pub mod Answers
pub mod Chained
