pub mod Sinks
pub mod Fragments
pub mod UnitFates
pub mod Sizes
pub mod Outcomes
