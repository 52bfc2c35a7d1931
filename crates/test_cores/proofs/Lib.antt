pub mod Disks
pub mod Cores
