pub mod Beginnings
pub mod Regions
pub mod Visits
pub mod Stores
pub mod Retries
pub mod Jobs
