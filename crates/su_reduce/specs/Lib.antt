pub mod Chains
pub mod Codes
pub mod Ears
pub mod inside
pub mod Left
pub mod Shapes
pub mod Sheets
pub mod Sides
