pub mod WidthLaws
pub mod WidthMost
