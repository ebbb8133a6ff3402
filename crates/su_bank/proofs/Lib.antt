pub mod FourQueries
pub mod LastLine
pub mod ScriptPieces
pub mod Statements
