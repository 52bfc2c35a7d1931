pub mod Laid
pub mod Plan
pub mod Put
