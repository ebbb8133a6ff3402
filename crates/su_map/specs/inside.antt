-- Definitions that only contracts of private functions and invariants of types need.
pub mod Choices
pub mod Nets
pub mod Netted
pub mod RoomParts
pub mod SearchEnds
pub mod Sendings
pub mod Targets
