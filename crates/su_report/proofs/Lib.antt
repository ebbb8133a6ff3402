pub mod Hanging
pub mod LowAttributes
pub mod Meeting
pub mod Members
pub mod ObjectTexts
pub mod Texts
pub mod Told
