pub mod Width
pub mod Promises
