pub mod ItemLabels
pub mod Named
pub mod FirstClash
pub mod Tabled
pub mod NamedAnswers
pub mod DistinctCandidates
pub mod Searches
pub mod FrozenValues
