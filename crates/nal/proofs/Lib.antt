pub mod Unpacking
pub mod Handing
pub mod Lengths
pub mod Putting
pub mod Running
pub mod Sayable
