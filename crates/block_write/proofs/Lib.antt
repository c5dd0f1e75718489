pub mod Octets
pub mod Front
