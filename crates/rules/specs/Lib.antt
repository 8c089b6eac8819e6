pub mod Reading
pub mod Known
pub mod Rules
pub mod Scan
pub mod Check
pub mod Safety
