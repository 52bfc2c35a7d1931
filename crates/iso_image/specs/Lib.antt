pub mod Refusal
pub mod Half
pub mod Changes
