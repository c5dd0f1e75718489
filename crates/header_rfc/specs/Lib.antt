pub mod Says
pub mod Taken
pub mod Accepted
pub mod RoundTrip
