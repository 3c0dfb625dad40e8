pub mod Codeword
pub mod Points
