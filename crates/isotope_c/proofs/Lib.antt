pub mod AsBox
pub mod Serving
pub mod Telling
pub mod Made
