pub mod CopyLaws
pub mod LentLaws
pub mod PreviewThenRow
