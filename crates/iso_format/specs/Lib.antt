pub mod Faults
pub mod PartRun
pub mod Reading
pub mod Records
pub mod Spelled
pub mod Writing
