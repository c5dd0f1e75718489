pub mod Rfc3550
pub mod Rfc8285
pub mod Packet
