-- Definitions that only contracts of private functions and invariants of types need.
pub mod Among
pub mod Tasks
