pub mod FewEntries
pub mod Holding
pub mod Reserving
pub mod Ruled
pub mod WidthBound
