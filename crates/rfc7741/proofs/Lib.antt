pub mod Fields
pub mod Laid
pub mod Unambiguous
pub mod Straying
