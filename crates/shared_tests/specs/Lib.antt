pub mod Starts
pub mod Clients
