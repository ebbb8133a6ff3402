pub mod Clash
pub mod Derivations
pub mod inside
