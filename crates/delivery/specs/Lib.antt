pub mod Show
pub mod Play
pub mod Demand
pub mod Frames
pub mod Calls
pub mod AnySender
pub mod OneMoment
pub mod Wrong
