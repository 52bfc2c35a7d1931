pub mod Grammar
pub mod Local
pub mod Values
pub mod Requests
