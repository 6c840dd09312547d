pub mod RepeatLaws
pub mod RowTextLaws
pub mod TextLineLaws
pub mod CallLaws
pub mod SpanLaws
pub mod Measured
