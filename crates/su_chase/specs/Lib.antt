pub mod Chase
pub mod Chased
pub mod Frozen
pub mod inside
