pub mod Groups
pub mod Step
pub mod Outcomes
