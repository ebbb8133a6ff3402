-- Definitions that only contracts of private functions and invariants of types need.
pub mod Alone
pub mod Executed
pub mod Joined
pub mod Merged
pub mod Supported
