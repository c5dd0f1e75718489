pub mod Domain
pub mod Octets
pub mod Never
