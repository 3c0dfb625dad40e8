pub mod Sheet
pub mod Scan
