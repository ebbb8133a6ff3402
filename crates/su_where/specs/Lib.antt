pub mod Disjunct
pub mod Operator
pub mod Truth
pub mod Places
pub mod inside
