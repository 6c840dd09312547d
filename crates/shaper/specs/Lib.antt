pub mod Shaper
pub mod NodeColumn
