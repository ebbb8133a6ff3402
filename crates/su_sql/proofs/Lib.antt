pub mod Choices
pub mod ImageLists
pub mod Led
pub mod Meaning
pub mod Stored
pub mod Written
