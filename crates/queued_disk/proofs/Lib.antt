pub mod Standing
pub mod Moves
pub mod Fronts
pub mod Files
pub mod Rows
