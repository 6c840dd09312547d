pub mod Steps
pub mod Files
pub mod Promises
pub mod Inner
