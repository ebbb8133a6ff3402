-- Definitions that only contracts of private functions and invariants of types need.
pub mod Heads
pub mod Numbers
pub mod Outs
pub mod Ready
pub mod RowCounts
