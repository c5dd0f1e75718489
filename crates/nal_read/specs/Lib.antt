pub mod Kind
pub mod Unpack
pub mod Said
