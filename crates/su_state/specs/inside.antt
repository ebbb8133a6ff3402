-- Definitions that only contracts of private functions and invariants of types need.
pub mod AddedDefinitions
pub mod AdmissibleRows
pub mod SomeBreaches
pub mod Found
pub mod LoadEnds
pub mod Leads
pub mod Pairs
pub mod Parts
pub mod Sides
