pub mod Past
pub mod Queued
pub mod Tape
pub mod Laws
