pub mod Multiply
pub mod Divide
