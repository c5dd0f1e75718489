pub mod Elements
pub mod Named
pub mod Runs
