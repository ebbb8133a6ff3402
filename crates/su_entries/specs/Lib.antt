pub mod Entries
pub mod Reading
pub mod Changes
pub mod TreeRows
pub mod inside
