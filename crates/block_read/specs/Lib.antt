pub mod Read
pub mod Said
