pub mod BreakerRounds
pub mod EarSteps
pub mod KeyRounds
pub mod Keyed
pub mod MaximalMembers
pub mod Passed
pub mod Readings
pub mod SubsetRounds
