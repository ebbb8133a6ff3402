pub mod Numbers
pub mod Texts
pub mod TextLeft
pub mod RowSoFar
pub mod RecordsSoFar
pub mod Flexible
pub mod ItemsSoFar
pub mod WrittenRows
