-- Definitions that only contracts of private functions and invariants of types need.
pub mod Choices
pub mod Firsts
pub mod Machine
pub mod Steps
