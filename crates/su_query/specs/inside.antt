-- Definitions that only contracts of private functions and invariants of types need.
pub mod CondComparisons
pub mod Fronts
pub mod PlaceNumbers
pub mod ReadConditions
pub mod ReadForms
pub mod ReadItems
pub mod ReadQueries
pub mod ReadRelations
pub mod RefNumbers
pub mod SchemaScopes
pub mod TwoKinds
pub mod Unknowns
