pub mod Fitting
pub mod Joining
pub mod Left
pub mod Objects
pub mod Taken
