-- Definitions that only contracts of private functions and invariants of types need.
pub mod Faults
pub mod OneAnswer
pub mod Records
pub mod Writers
