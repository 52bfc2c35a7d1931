pub mod Words
pub mod Chosen
pub mod Filled
pub mod Forms
pub mod Kept
pub mod Lays
pub mod Nexts
pub mod Tells
