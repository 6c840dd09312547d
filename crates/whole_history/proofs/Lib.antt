pub mod RunLaws
pub mod WalkLaws
pub mod ShapeLaws
pub mod TurnLaws
