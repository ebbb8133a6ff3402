pub mod Grammar
pub mod inside
pub mod Laws
pub mod Files
pub mod Shown
pub mod ShownDefinitions
