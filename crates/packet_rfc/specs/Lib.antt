pub mod Says
pub mod RoundTrip
