pub mod Openings
pub mod RunFiles
pub mod inside
