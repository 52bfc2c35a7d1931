pub mod Words
pub mod Moments
pub mod Paging
pub mod Slices
pub mod Standing
