pub mod Payload
pub mod Step
pub mod Alike
pub mod Conformance
pub mod Course
pub mod AnySender
pub mod Frames
pub mod Telling
