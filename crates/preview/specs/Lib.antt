pub mod Preview
pub mod Promises
