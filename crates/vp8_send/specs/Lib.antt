pub mod Send
pub mod SendAnswer
pub mod Asked
