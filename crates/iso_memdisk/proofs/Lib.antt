pub mod Words
pub mod Calls
pub mod Crash
pub mod Moves
pub mod Steps
pub mod Blank
