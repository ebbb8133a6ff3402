pub mod Laws
pub mod Unmerged
