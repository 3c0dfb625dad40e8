pub mod Modular
pub mod BabyBear
pub mod Inverses
pub mod Numbers
