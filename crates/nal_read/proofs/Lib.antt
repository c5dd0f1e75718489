pub mod Stap
pub mod Shapes
pub mod Never
pub mod Sayable
