pub mod Entries
pub mod inside
pub mod Matches
pub mod Notes
pub mod Tables
