pub mod Conform
pub mod Differences
