pub mod Lossless
pub mod Readings
