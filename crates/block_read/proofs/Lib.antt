pub mod Reading
pub mod Never
pub mod Filling
