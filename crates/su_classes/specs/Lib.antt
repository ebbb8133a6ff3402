pub mod inside
pub mod Items
pub mod Symbols
pub mod ClassNames
pub mod Tables
