pub mod BitSet
pub mod Lists
pub mod Name
pub mod Numbers
pub mod Sets
pub mod Text
pub mod Value
pub mod formers
