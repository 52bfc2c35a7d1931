pub mod Words
pub mod EachTold
pub mod Grouping
