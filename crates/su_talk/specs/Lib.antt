pub mod Answers
pub mod Entries
pub mod Events
pub mod Keeping
pub mod Laws
pub mod Statements
pub mod Talked
pub mod inside
