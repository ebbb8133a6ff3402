pub mod Coming
pub mod Cuts
pub mod Ended
pub mod Laws
pub mod inside
