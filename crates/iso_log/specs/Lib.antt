pub mod Ahead
pub mod Cause
pub mod Extent
pub mod Log
pub mod Scan
