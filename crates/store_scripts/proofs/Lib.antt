pub mod Words
pub mod Seconds
pub mod Growing
pub mod Blocks
pub mod Locality
pub mod FileLocality
pub mod Finding
pub mod Reading
pub mod Noted
pub mod Steps
pub mod Calls
pub mod Acting
pub mod TreeGoes
pub mod FileGoes
pub mod Members
pub mod Lines
pub mod Order
pub mod Refused
pub mod Refusals
pub mod Commits
pub mod Images
mod Rows
mod AnswerRows
mod Traps
pub mod Whole
pub mod EntryWords
pub mod Since
pub mod Numbers
pub mod MemberPlaces
pub mod Listed
mod ListTraps
pub mod ThreadWords
pub mod Events
pub mod Agree
pub mod OnStores
pub mod Sound
pub mod Alike
pub mod ThreadLines
pub mod StoreLines
pub mod Leaving
pub mod OwnEntries
pub mod Standing
pub mod Running
pub mod Histories
pub mod Placed
pub mod ThreadWhole
pub mod Clients
pub mod Merging
pub mod Tracing
mod HandedRows
mod TraceRows
