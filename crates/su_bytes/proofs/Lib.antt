pub mod Classes
pub mod Codes
pub mod CopiedRelations
pub mod Queries
pub mod RenamedAnswers
pub mod RenamedDependencies
