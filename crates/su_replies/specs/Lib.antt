pub mod Handed
pub mod Output
