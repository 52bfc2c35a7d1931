pub mod Pages
pub mod Holding
