pub mod ReadBack
pub mod Carried
pub mod Conform
pub mod Sound
pub mod Stale
pub mod Differences
pub mod Inverse
pub mod Only
