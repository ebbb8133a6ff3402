pub mod Banks
pub mod inside
pub mod Lines
pub mod Scripts
