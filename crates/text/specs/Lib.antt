pub mod Text
pub mod Queue
pub mod Inner
pub mod Promises
