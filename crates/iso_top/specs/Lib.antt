-- What the top call does.
pub mod Texts
pub mod Prints
pub mod Starts
pub mod Clients
pub mod Outcome
pub mod Begun
pub mod Founded
pub mod Ran
