pub mod Read
pub mod Write
pub mod Said
pub mod Fronts
pub mod Plain
