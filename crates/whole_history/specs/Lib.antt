-- What the contracts of the whole histories name.
pub mod Shapes
pub mod Whole
