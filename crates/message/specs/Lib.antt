pub mod Message
pub mod Inner
