pub mod AdjoinableObjects
pub mod Apart
pub mod Growth
pub mod inside
pub mod Laws
pub mod MaximalObjects
