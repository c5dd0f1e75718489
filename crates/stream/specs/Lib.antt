pub mod Argument
pub mod Digits
pub mod Files
pub mod Framing
pub mod Records
pub mod Status
pub mod Text
pub mod Window
