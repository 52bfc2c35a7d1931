pub mod Words
pub mod Appends
pub mod Counts
pub mod Finds
pub mod Handed
pub mod Groups
pub mod Offsets
pub mod Pieces
