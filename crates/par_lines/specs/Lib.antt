pub mod Replies
pub mod Answers
pub mod Clients
pub mod Jobs
pub mod Ends
pub mod Stores
pub mod Groups
