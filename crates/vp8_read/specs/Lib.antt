pub mod Read
pub mod ReadAnswer
pub mod Partition
