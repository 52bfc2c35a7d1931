pub mod Words
pub mod Ending
pub mod Said
pub mod Spelling
pub mod Parsing
pub mod Printing
pub mod Adding
pub mod Numbers
