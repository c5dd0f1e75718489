pub mod Counts
pub mod Measures
