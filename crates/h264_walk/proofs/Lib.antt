pub mod Bytes
pub mod Pairs
pub mod Steps
pub mod Walks
