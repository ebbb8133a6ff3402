pub mod Answers
pub mod inside
pub mod Joined
pub mod Laws
pub mod Prepared
pub mod Projections
pub mod Support
pub mod QueryAnswers
