pub mod Extending
pub mod Leading
