pub mod Sizes
pub mod Walks
pub mod Rows
pub mod Props
pub mod FirstBlock
pub mod Visits
pub mod Entries
pub mod Ways
