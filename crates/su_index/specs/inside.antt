-- Definitions that only contracts of private functions and invariants of types need.
pub mod Chunks
pub mod Edits
pub mod Entries
pub mod Indexed
pub mod Keys
pub mod Lead
pub mod Notes
pub mod Order
pub mod Searches
pub mod Spans
pub mod Upkeep
