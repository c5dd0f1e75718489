pub mod Blocks
pub mod Examples
pub mod Octets
pub mod Packets
pub mod Parse
pub mod Places
pub mod Unambiguous
