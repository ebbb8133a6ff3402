pub mod DoctorRuns
pub mod ScriptRuns
