pub mod Inverse
pub mod Only
pub mod Refusing
