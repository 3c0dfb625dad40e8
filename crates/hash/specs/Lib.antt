pub mod Word
pub mod Sha256
