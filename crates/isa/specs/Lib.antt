-- The specification of the instruction words, in the order in which to read it.
pub mod Table
pub mod Words
pub mod RoundTrip
