pub mod Each
pub mod RoundTrip
