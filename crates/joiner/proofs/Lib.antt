pub mod Joining
pub mod General
pub mod Only
pub mod Records
pub mod SentGroups
pub mod Handed
