pub mod Copies
pub mod Patch
