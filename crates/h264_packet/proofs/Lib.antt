pub mod Depacketizing
pub mod Never
pub mod Only
