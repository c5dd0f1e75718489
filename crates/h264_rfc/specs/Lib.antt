pub mod Reading
pub mod Loose
pub mod Meaning
pub mod Runs
pub mod Sent
pub mod Contract
