pub mod Run
pub mod Depacketize
pub mod Said
