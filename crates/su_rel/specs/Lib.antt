pub mod Changes
pub mod ExactRows
pub mod MoreThan
pub mod Stored
