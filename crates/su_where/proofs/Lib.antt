pub mod Disjunctive
pub mod DisjunctTruth
pub mod Layers
