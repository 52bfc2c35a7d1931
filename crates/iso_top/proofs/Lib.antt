pub mod DigestWords
mod Blocks
mod Begun
pub mod Words
mod Beginnings
mod Runs
mod Answered
mod Causes
pub mod Results
pub mod Benches
mod Tasks
mod Stops
mod Rising
pub mod Behind
mod RunsOfClients
mod ClientsMet
mod OpenedRows
