pub mod EveryClosure
pub mod Growth
pub mod OnePass
