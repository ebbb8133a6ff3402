pub mod Unmerged
