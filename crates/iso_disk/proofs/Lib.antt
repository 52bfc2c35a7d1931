pub mod Bytes
pub mod Causes
pub mod Images
pub mod Moments
pub mod Ranges
pub mod Told
