pub mod Refusals
pub mod Mark
pub mod Entries
pub mod Link
pub mod Lines
