pub mod Accepted
pub mod OpeningLaws
pub mod Filling
pub mod Ordering
