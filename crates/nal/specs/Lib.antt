pub mod Fed
pub mod Lengths
pub mod Unpack
pub mod Said
pub mod Ran
