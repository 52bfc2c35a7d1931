pub mod Masks
pub mod Moves
pub mod Pieces
pub mod Placed
pub mod Ranges
pub mod Shown
pub mod Versions
pub mod Weights
