pub mod Cores
pub mod Ready
pub mod Records
