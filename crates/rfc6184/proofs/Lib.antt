pub mod Each
pub mod Octets
pub mod Unambiguous
