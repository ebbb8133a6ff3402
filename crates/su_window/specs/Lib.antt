pub mod Cuts
pub mod inside
pub mod Laws
pub mod Members
pub mod Padded
pub mod Refusals
pub mod Representative
pub mod Window
