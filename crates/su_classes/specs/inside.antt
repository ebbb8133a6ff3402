-- Definitions that only contracts of private functions and invariants of types need.
pub mod Firsts
pub mod Symbols
pub mod Tables
pub mod Worklists
