pub mod Words
pub mod Visiting
