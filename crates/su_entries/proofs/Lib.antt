mod EntryOrder
mod FaultStands
mod Passing
pub mod QuietCalls
mod RowSoFar
mod TreeChanged
mod TreeOfRows
mod TreeSoFar
