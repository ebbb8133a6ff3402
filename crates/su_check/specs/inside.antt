-- Definitions that only contracts of private functions and invariants of types need.
pub mod Agreement
pub mod Boards
pub mod Branches
pub mod Cells
pub mod Forms
pub mod Guides
pub mod LineReaders
pub mod Trees
pub mod Widths
