pub mod Cover
pub mod inside
pub mod Kept
pub mod Laws
pub mod Needed
pub mod Reduction
