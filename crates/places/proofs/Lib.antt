pub mod Places
mod Offsets
