pub mod Words
pub mod Prefixes
pub mod Totals
pub mod Rising
pub mod Outs
pub mod Dealing
pub mod Keeps
