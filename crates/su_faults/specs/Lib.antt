pub mod Faults
pub mod Languages
pub mod Sorts
pub mod inside
