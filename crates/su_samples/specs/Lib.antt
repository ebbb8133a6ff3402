pub mod Sets
pub mod Tableaux
