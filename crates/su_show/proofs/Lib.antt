pub mod Explained
pub mod Lines
pub mod Numbers
pub mod RefusalLines
