-- Definitions that only contracts of private functions and invariants of types need.
pub mod Ordered
pub mod Ruled
