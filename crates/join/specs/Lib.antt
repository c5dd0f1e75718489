pub mod Account
pub mod Jump
