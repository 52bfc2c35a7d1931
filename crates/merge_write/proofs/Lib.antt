pub mod Bits
pub mod Chosen
pub mod Values
pub mod Words
pub mod Pieces
pub mod Effects
pub mod Growth
