pub mod ChangedValuations
pub mod Containment
pub mod FrozenTableaux
pub mod Rows
pub mod Same
pub mod SymbolParts
pub mod Sets
pub mod Members
pub mod EssentialCells
pub mod ValuationLists
mod Bytes
mod VariableCounts
