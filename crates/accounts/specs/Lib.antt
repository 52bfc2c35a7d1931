pub mod Sums
pub mod Transactions
pub mod Lists
pub mod Made
pub mod Kept
pub mod Learned
pub mod Jobs
pub mod Ends
