pub mod Header
pub mod Never
pub mod Parts
pub mod Going
pub mod Deliver
