pub mod Told
pub mod Only
