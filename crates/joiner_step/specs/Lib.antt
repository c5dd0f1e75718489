pub mod Run
pub mod Choice
pub mod Step
pub mod Paragraph
pub mod General
pub mod Play
