pub mod Step
pub mod Script
pub mod Text
pub mod Operations
pub mod Bench
pub mod CoreReplies
pub mod FilesArea
