-- Definitions that only contracts of private functions and invariants of types need.
pub mod Faults
pub mod Writes
pub mod Finds
pub mod Stores
