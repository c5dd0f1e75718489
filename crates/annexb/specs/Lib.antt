pub mod Search
pub mod Runs
pub mod Units
pub mod AnnexB
