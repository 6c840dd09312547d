pub mod Cells
pub mod Inner
