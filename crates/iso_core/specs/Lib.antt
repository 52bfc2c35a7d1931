pub mod Standing
pub mod Kept
pub mod Core
pub mod Calls
pub mod Ends
pub mod Opening
pub mod Switching
pub mod Planned
