pub mod Candidates
pub mod inside
pub mod Laws
pub mod Lists
pub mod Netted
pub mod Rooms
