pub mod Shift
pub mod Saturate
pub mod Normalise
