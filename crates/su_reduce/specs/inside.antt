-- Definitions that only contracts of private functions and invariants of types need.
pub mod Coded
pub mod Hashed
pub mod Keys
pub mod Marks
pub mod Partnered
pub mod Partners
pub mod Reduced
