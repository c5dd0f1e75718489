pub mod Limits
pub mod Size
pub mod Fixed
pub mod Judge
pub mod Parts
