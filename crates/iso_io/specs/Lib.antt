-- What the contracts of sources and sinks say.
pub mod Source
pub mod Sink
pub mod Memory
pub mod Standard
