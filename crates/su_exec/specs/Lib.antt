pub mod Components
pub mod inside
pub mod Outputs
pub mod Shares
pub mod Tasks
