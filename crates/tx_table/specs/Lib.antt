pub mod Live
pub mod Patches
pub mod Rack
pub mod Slots
pub mod Touching
pub mod Work
