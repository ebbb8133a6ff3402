pub mod Changes
pub mod Extensions
