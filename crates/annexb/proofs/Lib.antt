pub mod Runs
pub mod Codes
pub mod Skips
pub mod Pieces
pub mod Written
pub mod Within
