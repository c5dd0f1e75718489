pub mod Form
pub mod Padding
