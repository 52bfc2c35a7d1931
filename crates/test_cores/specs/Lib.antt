pub mod Small
pub mod Cores
