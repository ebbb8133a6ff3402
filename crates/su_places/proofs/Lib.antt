pub mod AllKinds
pub mod OnePlace
