pub mod Descriptor
pub mod Frame
