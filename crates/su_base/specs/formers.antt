pub mod Places
pub mod boxes
pub mod lists
