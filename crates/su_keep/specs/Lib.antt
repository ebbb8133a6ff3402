pub mod Lines
pub mod Listed
pub mod Shown
pub mod Kept
pub mod Causes
pub mod Opened
pub mod inside
