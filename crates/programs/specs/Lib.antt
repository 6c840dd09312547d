pub mod Programs
pub mod Inner
pub mod Streams
