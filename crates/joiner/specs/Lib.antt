pub mod Join
pub mod Said
pub mod Sent
