pub mod Few
pub mod HangingSets
pub mod Listed
pub mod Lists
pub mod Members
pub mod OtherOrder
pub mod Spread
pub mod GrowthSteps
