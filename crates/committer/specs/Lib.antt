pub mod Outcomes
pub mod Rule
pub mod Serving
pub mod Sides
pub mod Steps
pub mod Together
pub mod Views
