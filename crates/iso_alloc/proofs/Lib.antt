pub mod Words
pub mod Loops
mod Zeros
mod KeyParts
pub mod Bits
pub mod Laying
pub mod Finding
pub mod Members
