pub mod Reading
pub mod Writing
pub mod Parts
pub mod Only
pub mod Plain
