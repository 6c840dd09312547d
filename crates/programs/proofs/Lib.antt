pub mod ProgramLaws
pub mod FileRuns
pub mod StreamLaws
