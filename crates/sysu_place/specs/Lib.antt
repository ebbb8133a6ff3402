pub mod Ends
pub mod Replies
pub mod Words
pub mod inside
