pub mod Laws
pub mod Chains
pub mod Sum
pub mod Powers
pub mod Tables
pub mod SmallInverses
pub mod Numbers
