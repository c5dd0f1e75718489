pub mod Net
pub mod Part
pub mod Packets
pub mod Turns
pub mod Each
pub mod Bools
