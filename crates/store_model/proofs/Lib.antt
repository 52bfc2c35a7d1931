pub mod Words
pub mod Laying
pub mod StoreAccesses
pub mod HashAccesses
pub mod TreeCells
pub mod TreeWays
pub mod TreeAccesses
pub mod AreaBlocks
mod HashRows
mod TreeRows
mod FileRows
pub mod StoreRows
