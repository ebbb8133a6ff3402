-- Definitions that only contracts of private functions, sealed words and invariants of types need.
pub mod Fronts
pub mod Held
pub mod OpenTexts
pub mod Steps
pub mod Texts
