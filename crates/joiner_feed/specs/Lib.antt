pub mod Content
pub mod H264
pub mod Ran
pub mod Order
