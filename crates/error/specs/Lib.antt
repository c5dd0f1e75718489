pub mod Refusal
pub mod Said
pub mod Only
