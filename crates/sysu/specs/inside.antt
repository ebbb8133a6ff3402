-- Definitions that only contracts of private functions and invariants of types need.
pub mod Counts
pub mod HandedFiles
pub mod Lines
pub mod Queries
pub mod ScriptAnswers
pub mod Steady
pub mod Turns
