pub mod Longs
pub mod Restored
pub mod RoundTrip
pub mod Stored
