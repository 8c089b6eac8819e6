pub mod Refusals
mod Offsets
