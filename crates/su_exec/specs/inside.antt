-- Definitions that only contracts of private functions and invariants of types need.
pub mod Additions
pub mod Bodies
pub mod Checks
pub mod Coded
pub mod Edges
pub mod Gatherings
pub mod Joins
pub mod Kept
pub mod Labels
pub mod Plans
pub mod Ranges
pub mod Semijoins
pub mod Shown
pub mod Sifts
pub mod Threes
pub mod Ways
