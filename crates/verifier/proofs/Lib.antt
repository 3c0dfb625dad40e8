pub mod Combining
pub mod InputLaws
pub mod Leading
pub mod Places
pub mod Tests
