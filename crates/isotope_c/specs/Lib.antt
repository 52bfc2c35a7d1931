pub mod Sealed
pub mod Instances
pub mod Codes
pub mod Told
pub mod Exports
