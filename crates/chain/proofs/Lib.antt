pub mod Refusals
pub mod Witnesses
pub mod Lengths
pub mod Shown
pub mod HonestChain
pub mod Chaining
