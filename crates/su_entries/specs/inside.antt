-- Definitions that only contracts of private functions and invariants need.
pub mod Steps
