pub mod Row
pub mod Promises
pub mod Inner
