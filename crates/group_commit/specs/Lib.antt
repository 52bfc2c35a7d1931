pub mod Each
pub mod Groups
