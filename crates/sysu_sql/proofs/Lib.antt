pub mod SqlRuns
