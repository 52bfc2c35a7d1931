pub mod Notes
pub mod Decision
