pub mod Failures
pub mod Held
pub mod Laws
pub mod MemDisk
pub mod Record
pub mod Replay
pub mod Replayed
