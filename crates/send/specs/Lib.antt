pub mod Access
pub mod Account
