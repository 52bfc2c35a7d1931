pub mod Cause
pub mod Front
pub mod Made
pub mod Opened
pub mod Scanned
pub mod Shape
