pub mod Interval
pub mod Ranges
