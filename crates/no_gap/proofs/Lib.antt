pub mod MarkLaws
pub mod Spans
pub mod Merged
pub mod RowMarks
pub mod RowsLed
pub mod Histories
pub mod OurRows
pub mod Refuted
