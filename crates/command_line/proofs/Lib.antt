pub mod Words
pub mod Grammars
pub mod Getters
pub mod LongNumbers
pub mod Opened
pub mod Made
