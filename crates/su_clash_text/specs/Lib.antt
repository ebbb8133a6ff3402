pub mod inside
pub mod Lines
