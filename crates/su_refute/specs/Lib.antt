pub mod AllTrees
pub mod inside
pub mod Laws
pub mod Trees
pub mod Written
