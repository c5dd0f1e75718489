pub mod Elements
pub mod Packed
pub mod Runs
pub mod Changes
