pub mod Fields
pub mod Read
pub mod Size
pub mod Write
pub mod Extension
pub mod Said
pub mod Parts
