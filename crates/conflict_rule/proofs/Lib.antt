pub mod Words
pub mod Numbers
pub mod Meetings
pub mod Clashing
pub mod Following
