pub mod Explanations
pub mod ExplanationsRead
pub mod PreparedRead
pub mod Schemas
pub mod SchemasRead
pub mod Words
