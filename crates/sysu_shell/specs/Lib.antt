pub mod Keeping
pub mod NewDatabases
pub mod Openings
pub mod Statuses
pub mod Words
pub mod inside
