pub mod Groups
pub mod Standing
mod Disks
mod Parts
mod Puts
