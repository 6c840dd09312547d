pub mod PlacingLaws
pub mod SwapLaws
pub mod EndLaws
