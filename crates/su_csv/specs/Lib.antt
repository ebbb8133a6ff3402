pub mod Field
pub mod File
pub mod inside
pub mod ReadBack
pub mod Record
pub mod Written
