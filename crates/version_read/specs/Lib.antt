pub mod Blocks
pub mod Fills
pub mod Parts
