pub mod Dangling
pub mod inside
pub mod Joins
