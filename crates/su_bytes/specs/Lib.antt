-- What the laws say of universal relations of bytes.
pub mod Classes
pub mod Constants
pub mod Queries
pub mod Windows
