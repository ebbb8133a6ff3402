pub mod Blame
pub mod inside
pub mod Sets
