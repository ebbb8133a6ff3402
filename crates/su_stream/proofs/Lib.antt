mod Closing
pub mod Cutting
mod Fields
pub mod Given
mod Leading
mod Marks
pub mod Statements
pub mod Staying
mod Steps
