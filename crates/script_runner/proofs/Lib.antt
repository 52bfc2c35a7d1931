pub mod Words
pub mod Feeds
pub mod Fronts
pub mod Said
pub mod Histories
mod Grouped
pub mod Acknowledged
pub mod Replying
pub mod Steps
pub mod Answering
pub mod Endings
pub mod Rehearsals
mod ReplyRows
pub mod ScriptWords
mod LastPieces
mod WholeScripts
mod Reading
