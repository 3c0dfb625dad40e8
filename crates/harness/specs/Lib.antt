pub mod Answers
pub mod Permitted
