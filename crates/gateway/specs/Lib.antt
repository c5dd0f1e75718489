pub mod Refused
pub mod HeaderAnswers
pub mod PacketAnswers
pub mod PartsAnswers
pub mod H264Answers
pub mod Vp8Answers
pub mod JoinerAnswers
pub mod Sizes
