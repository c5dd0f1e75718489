pub mod Waiting
pub mod Step
