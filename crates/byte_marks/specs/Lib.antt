pub mod Marks
pub mod Touched
