pub mod CircuitString
