pub mod Tx
pub mod Runs
