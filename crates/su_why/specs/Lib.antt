pub mod Blame
pub mod Given
pub mod Heads
pub mod inside
pub mod Met
pub mod WhyNot
