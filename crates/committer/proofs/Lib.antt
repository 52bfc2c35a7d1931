pub mod DeskWords
pub mod Keeps
pub mod Words
pub mod Lasts
pub mod Rejoined
pub mod SessionEnds
