pub mod Clashes
pub mod Gathered
pub mod GivenParts
pub mod PartTasks
pub mod Pinned
pub mod Pins
pub mod Small
pub mod Whole
