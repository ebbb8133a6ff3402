-- Definitions that only contracts of private functions and invariants of types need.
pub mod Fronts
pub mod Nets
pub mod Positions
pub mod TermParts
