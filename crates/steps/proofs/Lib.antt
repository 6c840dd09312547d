pub mod FilePages
pub mod LineBytes
pub mod Lengths
pub mod Room
pub mod StepLaws
pub mod ShortReads
pub mod Decimals
