pub mod Merkle
pub mod Entry
pub mod Collision
pub mod Heap
pub mod Layout
