pub mod Goings
