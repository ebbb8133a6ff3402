mod Kept
mod Upward
mod WordByWord
